use Rattle.std.proofs.Common.{◌≡◌, Some, refl, slice_get}
use Rattle.serve_core.specs.Events.{Collect, Image}
use Rattle.serve_core.specs.Tally.{IsRightReply}
use Rattle.serve_core.specs.TallyInside.{tally}
use Rattle.serve_core.proofs.Calls.Tallies.{here_is, right_in, told}
use Rattle.serve_core.proofs.Calls.TallyStreams.{collect_facts, collect_went}
use Rattle.serve_core.proofs.tally.Tally.collect.Goals as goal

right : (c : goal.After-self-1) → IsRightReply (tally c.self.inside) (Collect c.args.s) (Image tt)
right c = right_in (Collect c.args.s) (Image tt) c.self.view_is (c.if-not-may_collect.ensures.0 refl)

here : (c : goal.After-self-1) → slice_get (tally c.self.inside).streams c.args.s ≡ Some c.index_mut.result.now
here c =
    let m = tally c.self.inside in
    let a = collect_facts m c.args.s (right c) in
    here_is m.streams c.args.s a.0 c.index_mut.result.now a.1 c.index_mut.ensures.value

pub invariant_of-self : goal.invariant_of-self
invariant_of-self c =
    (collect_went (tally c.self.inside) c.args.s c.index_mut.result.now c.collect.new.self c.self.invariant
    (here c) (right c) c.collect.ensures).reached

pub returns : goal.returns
returns c =
    told (collect_went (tally c.self.inside) c.args.s c.index_mut.result.now c.collect.new.self c.self.invariant
    (here c) (right c) c.collect.ensures) c.self.view_is
