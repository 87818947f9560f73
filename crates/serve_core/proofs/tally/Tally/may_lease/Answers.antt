use Rattle.std.proofs.Common.{◌≡◌, Some, List, arith, map, refl, slice_get, subst}
use Rattle.edf_pool.specs.Earliest.{IsEarliest}
use Rattle.serve_core.specs.Bare.{Blank}
use Rattle.serve_core.specs.States.{StreamState, ready_deadline}
use Rattle.serve_core.specs.TallyInside.{tally}
use Rattle.serve_core.proofs.Calls.Tallies.{few_done, lease_decides}
use Rattle.serve_core.proofs.Items.Lists.{slice_get_here}
use Rattle.serve_core.proofs.tally.Tally.may_lease.Goals as goal

here : (c : goal.Else-number-finished)
    → slice_get (tally c.self.inside).streams c.args.s ≡ Some c.index-row.result.now
here c =
    slice_get_here c.self.inside.rows.items c.args.s c.index-row.result.now
    (omega (arith, c.if-s-len.false, c.len.ensures, c.self.inside.rows.ok.0)) c.index-row.ensures

pub grant-requires : goal.grant-requires
grant-requires c = few_done (tally c.self.inside) c.args.s c.index-row.result.now c.self.invariant (here c)

pub returns : goal.returns
returns c =
    let m = tally c.self.inside in
    let first = subst (λ (rows : List (StreamState Blank)). IsEarliest (map ready_deadline rows) c.args.s)
    c.deref.ensures.value (c.if-not-is_earliest.ensures.0 refl) in
    let here = slice_get_here c.self.inside.rows.items c.args.s c.index-row.result.now
    (omega (arith, c.if-s-len.false, c.len.ensures, c.self.inside.rows.ok.0)) c.index-row.ensures in
    lease_decides m c.args.self.now c.args.w c.args.s c.args.number c.args.grant c.grant.result c.index-row.result.now
    c.self.view_is (c.if-not-is_free.ensures.0 refl) first here
    (cc) c.grant.ensures
