use Rattle.std.proofs.Math.Logic.{∥∥₁_elim}
use Rattle.std.proofs.Props.{props}
use Rattle.filters.proofs.chain.canvases.Images.take_line_of.Goals as goal

pub set_last_line-requires : goal.set_last_line-requires
set_last_line-requires c = ∥∥₁_elim c.line.ensures.is_line (hlevel props) (λ s. s)
