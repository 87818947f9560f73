use Rattle.std.proofs.Common.{arith}
use Rattle.std.proofs.lemmas.Grind.{common_steps}
use Rattle.serve_client.proofs.Stopping.{close_closes, close_tally, may_close}
use Rattle.serve_client.proofs.serving.close_torn.Goals as goal

pub returns-in-Err-Torn-clause-tally : goal.returns-in-Err-Torn-clause-tally
returns-in-Err-Torn-clause-tally g c = close_tally _ _ c.close.result c.close.ensures.closed c.close.ensures.refused

pub returns-in-Err-Torn-clause-shut : goal.returns-in-Err-Torn-clause-shut
returns-in-Err-Torn-clause-shut g c =
    close_closes _ _ c.close.result c.close.ensures.closed c.close.ensures.refused c.close.ensures.reserved

pub returns-in_default : goal.returns-in_default
returns-in_default g c = record {
  closed = may_close _ _ c.close.result c.close.ensures.closed c.close.ensures.refused;
  shut = close_closes _ _ c.close.result c.close.ensures.closed c.close.ensures.refused c.close.ensures.reserved;
  torn = λ is. absurd (cc);
  untorn = grind (arith, common_steps);
  tally = close_tally _ _ c.close.result c.close.ensures.closed c.close.ensures.refused;
}
