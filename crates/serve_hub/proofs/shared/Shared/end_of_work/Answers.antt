use Rattle.std.proofs.Common.{inl, refl}
use Rattle.serve_hub.proofs.shared.Shared.end_of_work.Goals as goal

pub returns-then-is_over-clause-refused : goal.returns-then-is_over-clause-refused
returns-then-is_over-clause-refused g c =
    inl (refl, rw (← c.self.view_is, ← c.desk.ensures.desk) (c.is_over.ensures.0 c.if-is_over.true))
