use Rattle.std.proofs.Common.{sym, subst}
use Rattle.serve_hub.specs.Books.{BookValue}
use Rattle.serve_hub.specs.Ends.{AreFree}
use Rattle.serve_hub.proofs.ended.Ended.tick.Goals as goal

pub new-requires-clause-free : goal.new-requires-clause-free
new-requires-clause-free c =
    subst (λ (b : BookValue). AreFree b.desk.workers) (sym c.tick.ensures.book) c.self.invariant.free
