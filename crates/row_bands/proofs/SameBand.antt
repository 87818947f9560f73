-- Two bands that hold the same are the same, whatever proves that their rows are inside.
use Rattle.std.proofs.Common.{ℕ, ◌≡◌, ◌≤◌, ap, ◌∙◌}
use Rattle.std.proofs.Math.Bridge.{le_prop}
use Rattle.std.specs.Borrow.{MutBor}
use Rattle.row_bands.specs.declared.canvas.Canvas.{Canvas}
use Rattle.row_bands.specs.declared.band.Band.{Band}

pub same_band : (from to : ℕ) (canvas : MutBor Canvas) (o o' : from ≤ to) (i i' : to ≤ canvas.now.frame.geometry.height)
    → ◌≡◌ {A = Band} (record { from = from; to = to; canvas = canvas; ordered = o; inside = i })
    (record { from = from; to = to; canvas = canvas; ordered = o'; inside = i' })
same_band from to canvas o o' i i' =
    let first : from ≤ to → Band = λ z. record { from = from; to = to; canvas = canvas; ordered = z; inside = i } in
    let second : to ≤ canvas.now.frame.geometry.height
    → Band = λ z. record { from = from; to = to; canvas = canvas; ordered = o'; inside = z } in
    ap first (le_prop o o') ∙ ap second (le_prop i i')
