use Rattle.std.proofs.Common.{refl}
use Rattle.serve_client.proofs.Stopping.{close_closes, close_tally}
use Rattle.serve_client.proofs.clients.end_unopened.Goals as goal

pub returns-clause-tally : goal.returns-clause-tally
returns-clause-tally g c = close_tally _ _ c.close.result c.close.ensures.closed c.close.ensures.refused

pub returns-clause-closed : goal.returns-clause-closed
returns-clause-closed g c = close_closes _ _ c.close.result c.close.ensures.closed c.close.ensures.refused c.close.ensures.reserved

pub returns-clause-outcome : goal.returns-clause-outcome
returns-clause-outcome g c = rw (c.into_source.ensures.remaining, c.into_source.ensures.failures) refl
