use Rattle.std.proofs.Common.{List}
use Rattle.serve_work.specs.History.{EpochValue}
use Rattle.serve_work.specs.Live.{Waiting}
use Rattle.serve_work.specs.LiveInside.{AreSeated}
use Rattle.serve_work.proofs.live.admission.admit_all.Given as goal

-- those that were admitted so far have their seats, and their requests wait
abbrev pub invariant-loop : goal.invariant-loop
invariant-loop g l = record {
  seated : (es : List EpochValue) × (ws : List Waiting) × g.D.Chronicle.stands l.door es ws
      × AreSeated g.D.Chronicle.terms g.D.Chronicle.times es g.L.Epoch.opening ws l.hall;
}
