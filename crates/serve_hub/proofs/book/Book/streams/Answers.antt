use Rattle.std.proofs.Common.{subst}
use Rattle.serve_hub.specs.Books.{IsBook}
use Rattle.serve_hub.proofs.book.Book.streams.Goals as goal

pub returns-clause-book : goal.returns-clause-book
returns-clause-book c = subst IsBook c.self.view_is c.self.invariant.is_book
