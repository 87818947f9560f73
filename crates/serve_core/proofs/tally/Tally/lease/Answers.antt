use Rattle.std.proofs.Common.{Some, refl, slice_set}
use Rattle.serve_core.specs.Events.{Lease, Leased}
use Rattle.serve_core.specs.TallyInside.{tally}
use Rattle.serve_core.proofs.Calls.Tallies.{Went, here_is, lease_facts, lease_went, right_in, told}
use Rattle.serve_core.proofs.Events.Steps.{new_lease, state}
use Rattle.serve_core.proofs.tally.Tally.lease.Goals as goal

leased : (c : goal.After-self-2-1)
    → Went (tally c.self.inside) (Lease c.args.w) (Leased c.args.s c.args.number c.args.grant)
    (state c.self.inside.clock c.self.inside.quantum (slice_set c.self.inside.rows.items c.args.s c.lend.new.self)
    (slice_set c.self.inside.workers.items c.args.w (Some (new_lease c.args.s c.args.number c.args.grant))))
leased c =
    let m = tally c.self.inside in
    let x = c.index_mut.result.now in
    let right = right_in (Lease c.args.w) (Leased c.args.s c.args.number c.args.grant) c.self.view_is
    (c.if-not-may_lease.ensures.0 refl) in
    let f = lease_facts m c.args.w c.args.s c.args.number c.args.grant right in
    lease_went m c.args.w c.args.s c.args.number c.args.grant x c.lend.new.self c.self.invariant
    (here_is m.streams c.args.s f.2.0 x f.2.1 c.index_mut.ensures.value) right c.lend.ensures

pub invariant_of-self : goal.invariant_of-self
invariant_of-self c = (leased c).reached

pub returns : goal.returns
returns c = told (leased c) c.self.view_is
