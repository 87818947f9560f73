use Rattle.std.proofs.Common.{length, sym, ap, subst, arith}
use Rattle.std.proofs.lemmas.List.{length-reverse}
use Rattle.serve_core.specs.Bare.{measures_any, is_any_image}
use Rattle.serve_core.specs.Desk.{desk_state}
use Rattle.serve_core.specs.Reached.{IsReached}
use Rattle.serve_core.specs.Schedule.{ScheduleValue}
use Rattle.serve_hub.specs.Books.{BookValue, reserved}
use Rattle.serve_hub.proofs.Retiring.{reached_sound}
use Rattle.serve_hub.proofs.book.Book.tick.Goals as goal

pub book_over-requires-clause-sound : goal.book_over-requires-clause-sound
book_over-requires-clause-sound c =
    let is_reached = λ (x : ScheduleValue). IsReached measures_any is_any_image (desk_state x) in
    let before = subst (λ (b : BookValue). is_reached b.desk) (sym c.self.view_is) c.requires.reached in
    reached_sound c.tick.new.self (c.tick.ensures.reached before)

pub book_over-requires-clause-fits : goal.book_over-requires-clause-fits
book_over-requires-clause-fits c =
    let same = ap reserved c.tick.ensures.desk in
    omega (arith, c.self.invariant.is_book.fits, same)

pub book_over-requires-clause-taken : goal.book_over-requires-clause-taken
book_over-requires-clause-taken c =
    let a = c.self.inside in
    let same = ap reserved c.tick.ensures.desk in
    omega (arith, c.self.invariant.counted, c.len.ensures, length-reverse a.journal.items, a.journal.ok.0, same)

pub book_over-requires-clause-units : goal.book_over-requires-clause-units
book_over-requires-clause-units c =
    let same = ap (λ (x : ScheduleValue). length x.workers) c.tick.ensures.desk in
    omega (arith, c.self.invariant.is_book.workers, c.self.inside.units.ok.0, same)
