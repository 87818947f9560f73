use Rattle.std.proofs.Common.{take}
use Rattle.serve_work.specs.LiveInside.{AreAllTold}
use Rattle.serve_work.proofs.live.guests.any_left.Given as goal

abbrev pub invariant-loop-guest : goal.invariant-loop-guest
invariant-loop-guest g l = AreAllTold (take l.guest-index l.guests.items)
