use Rattle.std.proofs.Common.{◌≡◌, ◌≢◌, Option, None, Some, IfNone, ap, refl, rules, sym, ◌∙◌}
use Rattle.filters.specs.Chain.{ChainValue}
use Rattle.filters.proofs.ChainGeometry.{same_geometry}
use Rattle.row_bands.proofs.BandHeights.{same_height}
use Rattle.serve_hub.proofs.chain_part.other_part.Goals as goal

-- chains with the same parts
same_chain : {X : Type 0} (part : Option X) (found own : ChainValue) → found.geometry ≡ own.geometry
    → found.band_height ≡ own.band_height → IfNone part (found.ops ≡ own.ops) → IfNone part (found ≡ own)
same_chain None found own geometry height ops =
    λ i. record { ops = ops i; geometry = geometry i; band_height = height i }
same_chain (Some part) found own geometry height ops = tt

pub returns-clause-same : goal.returns-clause-same
returns-clause-same c =
    let geometry : c.args.found.now.geometry ≡ c.args.own.now.geometry =
    sym (c.geometry-geometry.ensures ∙ ap (λ (v : ChainValue). v.geometry) c.chain.ensures) ∙ c.if-not-fits.ensures.0 refl in
    let height : c.args.found.now.band_height ≡ c.args.own.now.band_height = same_height _ _ (search rules) in
    same_chain c.other_op.result c.args.found.now c.args.own.now geometry height (search rules)

pub returns-then-not-fits-clause-other : goal.returns-then-not-fits-clause-other
returns-then-not-fits-clause-other c =
    let other : c.geometry-geometry.result ≢ c.args.own.now.geometry = search rules in
    λ same. other (same_geometry _ _ same)
