-- That an operation fits a picture has one proof at most.
use Rattle.std.proofs.Props.{props}
use Rattle.frame_view.specs.declared.geometry.Geometry.{Geometry}
use Rattle.filters.specs.declared.op.Op.{Op}
use Rattle.filters.specs.declared.op.Op.TheVariants.{Table, HFlip, VFlip, Crop, Blur}
use Rattle.filters.specs.Ops.{IsDoable}

pub IsDoable-prop : (op : Op) (g : Geometry) → IsProp (IsDoable op g)
IsDoable-prop (Table table) g = hlevel props
IsDoable-prop HFlip g = hlevel props
IsDoable-prop VFlip g = hlevel props
IsDoable-prop (Crop crop) g = hlevel props
IsDoable-prop (Blur blur) g = hlevel props
