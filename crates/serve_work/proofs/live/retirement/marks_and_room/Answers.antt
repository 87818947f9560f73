use Rattle.std.proofs.Common.{◌≡◌, ◌∙◌, ℕ, Bool, List, Option, ap, arith, length, map, subst, take}
use Rattle.serve_core.specs.Retired.{stays}
use Rattle.serve_hub.specs.Seats.{StreamRest}
use Rattle.serve_work.specs.declared.live.guests.Guest.{Guest}
use Rattle.serve_work.specs.LiveInside.{AreToldBut}
use Rattle.serve_work.proofs.live.retirement.marks_and_room.Goals as goal

pub returns-clause-marks : goal.returns-clause-marks
returns-clause-marks g c =
    let ended = c.args.interval.now.ended in
    let f = λ (rest : StreamRest). stays ended.book.desk rest.number in
    let count : c.len.result ≡ length c.args.interval.now.guests.items = omega (arith, c.len.ensures, c.args.interval.now.guests.ok.0) in
    c.in_ok-marks.ensures.marks ∙ ap (λ (n : ℕ). map f (take n ended.streams)) count

pub returns-clause-unmarked_told : goal.returns-clause-unmarked_told
returns-clause-unmarked_told g c =
    subst (λ (these : List Bool). AreToldBut these c.args.interval.now.guests.items) c.deref.ensures.value
    (subst (λ (gs : List (Option (Guest _ _))). AreToldBut c.deref.result.now gs) c.deref-2.ensures.value
    (c.are_told_but_marked.ensures c.if-not-are_told_but_marked.false))
