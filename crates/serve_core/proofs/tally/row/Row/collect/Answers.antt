use Rattle.std.proofs.Common.{◌≡◌, ◌+◌, ◌-◌, drop, subst}
use Rattle.serve_core.specs.Bare.{Blank}
use Rattle.serve_core.specs.Counts.{Taken}
use Rattle.serve_core.specs.Desk.{blanks}
use Rattle.serve_core.specs.RowInside.{row}
use Rattle.serve_core.specs.States.{StreamState, did}
use Rattle.serve_core.proofs.Calls.Desks.{blanks_fewer, with_frames}
use Rattle.serve_core.proofs.tally.row.Row.collect.Goals as goal

pub returns : goal.returns
returns c =
    let old = row c.self.inside in
    let fewer = blanks (old.accepted - (old.collected + 1)) in
    let new : StreamState Blank = record (did old Taken) { frames = fewer } in
    subst (λ (x : StreamState Blank). new ≡ did x Taken) c.self.view_is
    (with_frames (did old Taken) fewer (drop 1 old.frames) (blanks_fewer old.accepted old.collected))
