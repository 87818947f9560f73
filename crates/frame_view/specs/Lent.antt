-- A plane as it is lent beside the others.
use Rattle.std.specs.Prelude.{◌≡◌, ℕ}
use Rattle.frame_view.specs.declared.geometry.Geometry.{Geometry}
use Rattle.frame_view.specs.declared.geometry.LentPlane.{LentPlane}
use Rattle.frame_view.specs.LentTogether.{lent_columns, lent_len}

pub record IsLent (g : Geometry) (p : ℕ) (lent : LentPlane) : Type 0 where
  pub columns : lent.columns ≡ lent_columns g p
  pub len : lent.len ≡ lent_len g p
