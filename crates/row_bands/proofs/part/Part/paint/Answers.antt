use Rattle.frame_view.proofs.Places.{counts}
use Rattle.y4m_header.specs.Chroma.{plane_count}
use Rattle.row_bands.specs.Bands.{rows_above}
use Rattle.row_bands.specs.HalvesInside.{GivesRows}
use Rattle.row_bands.proofs.PartRows.{each_plane}
use Rattle.row_bands.proofs.part.Part.paint.Goals as goal

pub returns-clause-rows : goal.returns-clause-rows
returns-clause-rows g c =
    let part = c.args.self in
    let at = part.geometry in
    record {
      rows = each_plane (plane_count at.chroma) (counts at.chroma)
          (λ p. GivesRows (g.P.Painter.picture c.args.painter.now) (g.P.Painter.paint_gives c.args.painter.now) at p
          (rows_above at p part.from) (rows_above at p part.to))
          _ _ _ _ c.paint_plane.ensures c.paint_plane-2.ensures c.paint_plane-3.ensures c.paint_plane-4.ensures;
    }
