-- The heights that a band can have.
use Rattle.std.specs.Prelude.{◌≡◌, ℕ, ◌%◌, ◌≤◌}
use Rattle.row_bands.specs.declared.limits.TheConstants.{FEWEST_BAND_ROWS, MOST_BAND_ROWS}

pub record IsBandHeight (b : ℕ) : Type 0 where
  pub even : b % 2 ≡ 0
  pub some : FEWEST_BAND_ROWS ≤ b
  pub few : b ≤ MOST_BAND_ROWS
