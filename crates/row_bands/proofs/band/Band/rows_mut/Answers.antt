use Rattle.std.proofs.Common.{rules, refl, ap, ◌∙◌}
use Rattle.frame_view.specs.Places.{row_start}
use Rattle.row_bands.specs.Lending.{band_with}
use Rattle.row_bands.specs.Band.{band_geometry}
use Rattle.row_bands.proofs.SameBand.{same_band}
use Rattle.row_bands.proofs.band.Band.rows_mut.Goals as goal

pub returns : goal.returns
returns c =
    let band = c.args.self.now in (
      (
        refl,
        λ w. same_band _ _ _ _ _ _ _
            ∙ ap (λ z. band_with band (row_start (band_geometry band) c.args.p z) w) c.rows-from.ensures.from,
      ),
      record {
        writes_back = tt;
        value = search rules;
        len = search rules;
      },
    )
