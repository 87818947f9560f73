use Rattle.std.proofs.Common.{ℕ, ◌≡◌, ◌∙◌, Option, Some, ap, subst, sym}
use Rattle.std.specs.Prelude.{slice_get}
use Rattle.std.specs.Option.{option_map}
use Rattle.serve_core.specs.Schedule.{HasStream}
use Rattle.serve_hub.specs.Seats.{StreamRest}
use Rattle.serve_work.specs.Live.{IsStandingOf}
use Rattle.serve_work.proofs.Showing.{shown_as, standing_with}
use Rattle.serve_work.proofs.live.guests.standing_at.Goals as goal

pub returns : goal.returns
returns c = λ rest here.
    let desk = c.args.ended.now.book.desk in
    let number : StreamRest → ℕ = λ it. it.number in
    let is : Some c.in-Some.number ≡ Some rest.number =
    sym c.in-Some.is ∙ c.number.ensures ∙ ap (λ (o : Option StreamRest). option_map number o) here in
    let same : c.in-Some.number ≡ rest.number = cc in
    let counts = c.in-Some-counts.counts in
    subst (λ (n : ℕ). HasStream desk n (IsStandingOf (standing_with counts c.in-Some-account.budget c.in-Some-account.deadline))) same
    (shown_as (slice_get desk.streams c.in-Some.number) counts c.in-Some-account.budget c.in-Some-account.deadline
    (sym c.in-Some-counts.is ∙ c.counts.ensures) (sym c.in-Some-account.is ∙ c.account.ensures))
