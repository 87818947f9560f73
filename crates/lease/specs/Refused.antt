-- What comes back with a refusal.
use Rattle.std.specs.declared.sync.Arc.{Arc}
use Rattle.std.specs.declared.alloc.Global.{Global}
use Rattle.frame_view.specs.declared.frame.Frame.{Frame}
use Rattle.lease.specs.declared.refused.JobRefused.{JobRefused}
use Rattle.lease.specs.declared.refused.JobRefused.TheVariants as new
use Rattle.lease.specs.declared.refused.OverRefused.{OverRefused}
use Rattle.lease.specs.declared.refused.OverRefused.TheVariants as over

abbrev pub frame_in : JobRefused → Arc Frame Global
frame_in (new.WrongSize source) = source
frame_in (new.NoMemory source) = source

abbrev pub frame_beside : OverRefused → Arc Frame Global
frame_beside (over.WrongSize source image) = source
frame_beside (over.NoMemory source image) = source

abbrev pub image_in : OverRefused → Frame
image_in (over.WrongSize source image) = image
image_in (over.NoMemory source image) = image
