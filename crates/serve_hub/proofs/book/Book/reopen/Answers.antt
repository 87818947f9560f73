use Rattle.std.proofs.Common.{◌≤◌, sym, subst, arith}
use Rattle.std.proofs.lemmas.List.{length-reverse}
use Rattle.serve_hub.specs.Books.{BookValue, reserved}
use Rattle.serve_hub.proofs.book.Book.reopen.Goals as goal

pub book_over-book-requires-clause-sound : goal.book_over-book-requires-clause-sound
book_over-book-requires-clause-sound c = c.self.invariant.is_book.sound

pub book_over-book-requires-clause-fits : goal.book_over-book-requires-clause-fits
book_over-book-requires-clause-fits c =
    subst (λ (b : BookValue). reserved b.desk ≤ c.args.limit) (sym c.self.view_is) c.requires.fits

pub book_over-book-requires-clause-taken : goal.book_over-book-requires-clause-taken
book_over-book-requires-clause-taken c =
    let a = c.self.inside in
    omega (arith, c.self.invariant.counted, c.len.ensures, length-reverse a.journal.items, a.journal.ok.0)

pub book_over-book-requires-clause-units : goal.book_over-book-requires-clause-units
book_over-book-requires-clause-units c =
    omega (arith, c.self.invariant.is_book.workers, c.self.inside.units.ok.0)
