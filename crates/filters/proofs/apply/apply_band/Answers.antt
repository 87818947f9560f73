use Rattle.filters.proofs.apply.apply_band.Goals as goal

pub invariant_of-painter : goal.invariant_of-painter
invariant_of-painter c =
    record { doable = ∣ c.requires.doable ∣₁; image = rw c.geometry.ensures c.requires.image }

pub returns-clause-painted : goal.returns-clause-painted
returns-clause-painted c = c.paint_band.ensures.painted
