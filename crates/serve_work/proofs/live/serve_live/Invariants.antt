use Rattle.std.proofs.Common.{List, []}
use Rattle.serve_work.specs.History.{EpochValue, IsHistory}
use Rattle.serve_work.proofs.live.serve_live.Given as goal

-- no request waits
abbrev pub invariant-loop : goal.invariant-loop
invariant-loop g l = record {
  nobody : (es : List EpochValue) × IsHistory g.D.Chronicle.terms g.D.Chronicle.times es × g.D.Chronicle.stands l.door es [];
}
