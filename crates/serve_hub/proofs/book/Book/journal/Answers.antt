use Rattle.std.proofs.Common.{reverse, ◌∙◌, ap, subst}
use Rattle.serve_hub.specs.Books.{BookValue, IsBook}
use Rattle.serve_hub.proofs.book.Book.journal.Goals as goal

pub returns-clause-past : goal.returns-clause-past
returns-clause-past c = ap reverse c.deref.ensures.value ∙ ap (λ (b : BookValue). b.past) c.self.view_is

pub returns-clause-book : goal.returns-clause-book
returns-clause-book c = subst IsBook c.self.view_is c.self.invariant.is_book
