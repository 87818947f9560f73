use Rattle.std.proofs.Common.{◌≡◌, get_or, ◌∙◌, ap, refl}
use Rattle.std.proofs.lemmas.Option.{slice_get_read}
use Rattle.filters.proofs.ChainDoable.{radius_at, doable_at, image_geometry_at}
use Rattle.filters.proofs.chain.Chain.op.Goals as goal

-- the operation is that of the chain
item : (c : goal.After-result-1)
    → c.index.result.now ≡ get_or c.args.self.now.ops c.args.i c.index.result.now
item c = c.index.ensures ∙ ap (λ chain. get_or chain.ops c.args.i c.index.result.now) c.self.view_is

pub returns-clause-value : goal.returns-clause-value
returns-clause-value c =
    slice_get_read c.args.self.now.ops _ c.args.i c.index.result.now refl c.requires (item c)

pub returns-clause-radius : goal.returns-clause-radius
returns-clause-radius c =
    let is = rw c.self.view_is at c.self.invariant.is_chain in
    rw (item c) (radius_at c.args.self.now c.args.i c.index.result.now c.requires is)

pub returns-clause-doable : goal.returns-clause-doable
returns-clause-doable c g p =
    let is = rw c.self.view_is at c.self.invariant.is_chain in
    rw (item c) (doable_at c.args.self.now c.args.i c.index.result.now g c.requires is p)

pub returns-clause-image : goal.returns-clause-image
returns-clause-image c g image p q =
    rw (item c) (image_geometry_at c.args.self.now c.args.i c.index.result.now g image c.requires p q)
