use Rattle.std.proofs.Common.{◌≡◌, rules}
use Rattle.row_bands.proofs.BandHeights.{same_height}
use Rattle.lease.proofs.job_spec.is_same_spec.Goals as goal
use Rattle.lease.proofs.job_spec.is_same_spec.Goals.{then-are_same_ops, else-are_same_ops}

pub returns-then-fits : goal.returns-then-fits
returns-then-fits c = elim c.if-are_same_ops.branch [
  | then-are_same_ops w ↦ (
    (λ yes.
        let ops : c.args.one.now.ops ≡ c.args.other.now.ops = search rules in
        let geometry : c.args.one.now.geometry ≡ c.args.other.now.geometry = search rules in
        let height : c.args.one.now.band_height ≡ c.args.other.now.band_height =
        same_height _ _ (search rules) in
        λ i. record { ops = ops i; geometry = geometry i; band_height = height i }),
    (λ same. search rules),
  )
  | else-are_same_ops w ↦ search rules
]
