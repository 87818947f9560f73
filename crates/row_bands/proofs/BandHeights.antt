-- Heights of bands that are the same.
use Rattle.std.proofs.Common.{◌≡◌, ◌≤◌, ◌%◌}
use Rattle.std.proofs.Props.{props}
use Rattle.frame_view.proofs.Geometries.{joined}
use Rattle.row_bands.specs.declared.band_height.BandHeight.{BandHeight}
use Rattle.row_bands.specs.declared.limits.TheConstants.{FEWEST_BAND_ROWS, MOST_BAND_ROWS}

-- what a height says of itself follows from its rows
pub same_height : (a b : BandHeight) → a.rows ≡ b.rows → a ≡ b
same_height a b rows = λ i. record {
  rows = rows i;
  even = joined (λ k. rows k % 2 ≡ 0) (hlevel props) a.even b.even i;
  fewest = joined (λ k. FEWEST_BAND_ROWS ≤ rows k) (hlevel props) a.fewest b.fewest i;
  most = joined (λ k. rows k ≤ MOST_BAND_ROWS) (hlevel props) a.most b.most i;
}
