use Rattle.std.proofs.Common.{◌≤◌, length, subst}
use Rattle.serve_hub.specs.BookInside.{book}
use Rattle.serve_hub.specs.Books.{BookValue}
use Rattle.serve_hub.proofs.Opened.{more_streams}
use Rattle.serve_hub.proofs.book.Book.desk.Goals as goal

pub returns-clause-more : goal.returns-clause-more
returns-clause-more c =
    subst (λ (b : BookValue). length b.opening.streams ≤ length c.self.inside.desk.streams) c.self.view_is
    (more_streams (book c.self.inside) c.self.invariant.is_book)
