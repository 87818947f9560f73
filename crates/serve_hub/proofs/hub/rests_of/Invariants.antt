use Rattle.std.proofs.Common.{◌≡◌, take, vec_len}
use Rattle.serve_hub.specs.Seats.{opened_rests}
use Rattle.serve_hub.proofs.hub.rests_of.Given as goal

abbrev pub invariant-loop-s : goal.invariant-loop-s
invariant-loop-s l = (l.rests.items ≡ opened_rests 0 (take l.s l.streams)) × (vec_len l.rests ≡ l.s)
