use Rattle.std.proofs.Common.{◌≡◌, ◌+◌, ◌*◌, ◌<◌, ℕ, slice_index}
use Rattle.filters.specs.Blur.{blurred, pixel_of}
use Rattle.filters.specs.BlurInside.{AreColumnSums}
use Rattle.filters.proofs.blur.band.blur_band.Given as goal

abbrev pub invariant-loop-v : goal.invariant-loop-v
invariant-loop-v g l =
    AreColumnSums l.plane (l.from + l.v) l.columns
    × ((v x : ℕ) → v < l.v → x < l.plane.width → slice_index l.target (v * l.plane.width + x)
    ≡ blurred (pixel_of l.plane.samples.now l.plane.width) l.plane.width l.plane.height l.plane.radius
    (l.from + v) x)
