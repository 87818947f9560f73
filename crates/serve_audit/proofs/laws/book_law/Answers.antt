use Rattle.serve_audit.proofs.Books.{book_is, end_is, same_is}
use Rattle.serve_audit.proofs.laws.book_law.Goals as goal

pub returns : goal.returns
returns c = record { history = book_is; end = end_is; same = same_is }
