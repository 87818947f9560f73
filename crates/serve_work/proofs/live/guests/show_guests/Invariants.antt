use Rattle.std.proofs.Common.{List}
use Rattle.serve_work.specs.History.{EpochValue}
use Rattle.serve_work.specs.Live.{Waiting}
use Rattle.serve_work.proofs.live.guests.show_guests.Given as goal

-- the same requests wait
abbrev pub invariant-loop-place : goal.invariant-loop-place
invariant-loop-place g l = record {
  waits : (es : List EpochValue) (ws : List Waiting) → g.D.Chronicle.stands l.initial.door es ws → g.D.Chronicle.stands l.door es ws;
}
