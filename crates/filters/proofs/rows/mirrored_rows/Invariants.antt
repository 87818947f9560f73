use Rattle.std.proofs.Common.{◌≡◌, ◌+◌, ◌*◌, ◌<◌, ℕ, slice_index}
use Rattle.frame_view.specs.Frame.{samples_of}
use Rattle.filters.specs.declared.op.Op.TheVariants.{HFlip}
use Rattle.filters.specs.Image.{image_pixel}
use Rattle.filters.proofs.rows.mirrored_rows.Given as goal

abbrev pub invariant-loop-v : goal.invariant-loop-v
invariant-loop-v l = (v x : ℕ) → v < l.v → x < l.span.columns
    → slice_index l.rows (v * l.span.columns + x)
    ≡ image_pixel HFlip l.source.geometry (samples_of l.source) l.span.p (l.span.from + v) x
