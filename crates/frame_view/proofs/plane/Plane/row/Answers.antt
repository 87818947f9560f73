use Rattle.std.proofs.Common.{Some, sym, ap, ◌∙◌}
use Rattle.frame_view.proofs.Rows.{slice_get-map-range}
use Rattle.frame_view.proofs.plane.Plane.row.Goals as goal

pub returns-clause-listed : goal.returns-clause-listed
returns-clause-listed c = slice_get-map-range _ _ c.args.y c.requires ∙ ap Some (sym c.rows.ensures)
