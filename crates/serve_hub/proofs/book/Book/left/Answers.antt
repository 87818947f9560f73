use Rattle.std.proofs.Common.{ℕ, ◌-◌, ◌∙◌, ap}
use Rattle.serve_hub.specs.Books.{entries_left}
use Rattle.serve_hub.proofs.book.Book.left.Goals as goal

pub returns : goal.returns
returns c = ap (λ (n : ℕ). c.self.inside.limit - n) c.self.invariant.counted ∙ ap entries_left c.self.view_is
