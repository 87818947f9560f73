use Rattle.std.proofs.Common.{◌≤◌, length, sym, ap, subst, arith}
use Rattle.std.specs.Vec.{vec_capacity}
use Rattle.std.proofs.lemmas.List.{length-reverse}
use Rattle.serve_core.specs.Bare.{measures_any, is_any_image}
use Rattle.serve_core.specs.Desk.{desk_state}
use Rattle.serve_core.specs.Reached.{IsReached}
use Rattle.serve_core.specs.Schedule.{ScheduleValue}
use Rattle.serve_hub.specs.Books.{BookValue, reserved}
use Rattle.serve_hub.proofs.Histories.{few_here}
use Rattle.serve_hub.proofs.Retiring.{reached_sound, reserved_kept}
use Rattle.serve_hub.proofs.book.Book.retire.Goals as goal

pub retire-requires-clause-few_streams : goal.retire-requires-clause-few_streams
retire-requires-clause-few_streams c =
    let reached = subst (λ (b : BookValue). IsReached measures_any is_any_image (desk_state b.desk)) (sym c.self.view_is)
    c.requires.reached in
    (few_here c.self.inside.desk reached).0

pub book_over-book-requires-clause-sound : goal.book_over-book-requires-clause-sound
book_over-book-requires-clause-sound c =
    let is_reached = λ (x : ScheduleValue). IsReached measures_any is_any_image (desk_state x) in
    let before = subst (λ (b : BookValue). is_reached b.desk) (sym c.self.view_is) c.requires.reached in
    reached_sound c.retire.new.self (c.retire.ensures.reached before)

pub book_over-book-requires-clause-capacity : goal.book_over-book-requires-clause-capacity
book_over-book-requires-clause-capacity c =
    subst (λ (b : BookValue). b.limit ≤ vec_capacity c.args.journal) (sym c.self.view_is) c.requires.capacity

pub book_over-book-requires-clause-fits : goal.book_over-book-requires-clause-fits
book_over-book-requires-clause-fits c =
    let same = ap reserved c.retire.ensures.desk in
    omega (arith, c.self.invariant.is_book.fits, reserved_kept c.self.inside.desk, same)

pub book_over-book-requires-clause-taken : goal.book_over-book-requires-clause-taken
book_over-book-requires-clause-taken c =
    let a = c.self.inside in
    let same = ap reserved c.retire.ensures.desk in
    omega (
      arith,
      c.self.invariant.counted,
      c.len.ensures,
      length-reverse a.journal.items,
      a.journal.ok.0,
      reserved_kept a.desk,
      same,
    )

pub book_over-book-requires-clause-units : goal.book_over-book-requires-clause-units
book_over-book-requires-clause-units c =
    let same = ap (λ (x : ScheduleValue). length x.workers) c.retire.ensures.desk in
    omega (arith, c.self.invariant.is_book.workers, c.self.inside.units.ok.0, same)
