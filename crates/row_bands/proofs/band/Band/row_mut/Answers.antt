use Rattle.std.proofs.Common.{rules, refl}
use Rattle.row_bands.proofs.SameBand.{same_band}
use Rattle.row_bands.proofs.band.Band.row_mut.Goals as goal

pub returns : goal.returns
returns c = (
  (refl, λ w. same_band _ _ _ _ _ _ _),
  record {
    writes_back = tt;
    value = search rules;
    len = search rules;
  },
)
