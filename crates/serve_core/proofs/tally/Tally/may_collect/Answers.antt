use Rattle.std.proofs.Common.{◌≡◌, Some, slice_get}
use Rattle.serve_core.specs.TallyInside.{tally}
use Rattle.serve_core.proofs.Calls.Tallies.{found_is}
use Rattle.serve_core.proofs.Calls.TallyStreams.{may_collect_is}
use Rattle.serve_core.proofs.tally.Tally.may_collect.Goals as goal

pub returns-in-Some : goal.returns-in-Some
returns-in-Some c =
    let m = tally c.self.inside in
    let l = c.in-Some.ensures.lookup in
    let here : slice_get m.streams c.args.s ≡ Some c.in-Some.row.now =
    found_is m.streams c.deref.result.now c.args.s c.in-Some.row.now c.deref.ensures.value l.0 l.1 in
    may_collect_is m c.args.self.now c.args.s c.in-Some.row.now c.has_image.result c.self.invariant c.self.view_is here
    c.has_image.ensures
