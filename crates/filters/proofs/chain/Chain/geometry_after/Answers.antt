use Rattle.std.proofs.Common.{◌≡◌, ◌+◌, ◌-◌, arith, sym}
use Rattle.filters.proofs.ChainOutputs.{length-outputs, output_at}
use Rattle.filters.proofs.chain.Chain.geometry_after.Goals as goal

pub index-requires : goal.index-requires
index-requires c =
    let within = rw (sym c.self.view_is) at c.requires in
    omega (arith, within, length-outputs _ _ c.self.inside.geometry c.self.invariant.outputs)

pub returns : goal.returns
returns c =
    let within = rw (sym c.self.view_is) at c.requires in
    let count : c.args.count ≡ c.args.count - 1 + 1 = omega arith in
    rw (sym c.self.view_is, count)
    (output_at _ _ c.self.inside.geometry (c.args.count - 1) _ c.self.invariant.outputs
    (omega (arith, within)) c.index.ensures)
