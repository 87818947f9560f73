use Rattle.std.proofs.Common.{sym, subst}
use Rattle.serve_hub.specs.Books.{BookValue}
use Rattle.serve_hub.specs.Ends.{AreFree}
use Rattle.serve_hub.proofs.ended.Ended.retire_over.Goals as goal

pub new-ended-requires-clause-free : goal.new-ended-requires-clause-free
new-ended-requires-clause-free c =
    subst (λ (b : BookValue). AreFree b.desk.workers) (sym c.retire-book.ensures.book) c.self.invariant.free
