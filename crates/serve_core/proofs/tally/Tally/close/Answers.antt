use Rattle.std.proofs.Common.{◌≡◌, Some, refl, slice_get}
use Rattle.serve_core.specs.Events.{Close, Closing}
use Rattle.serve_core.specs.Tally.{IsRightReply}
use Rattle.serve_core.specs.TallyInside.{tally}
use Rattle.serve_core.proofs.Calls.Tallies.{here_is, right_in, told}
use Rattle.serve_core.proofs.Calls.TallyStreams.{close_facts, close_went}
use Rattle.serve_core.proofs.tally.Tally.close.Goals as goal

right : (c : goal.After-self-1) → IsRightReply (tally c.self.inside) (Close c.args.s) Closing
right c = right_in (Close c.args.s) Closing c.self.view_is (c.if-not-may_close.ensures.0 refl)

here : (c : goal.After-self-1) → slice_get (tally c.self.inside).streams c.args.s ≡ Some c.index_mut.result.now
here c =
    let m = tally c.self.inside in
    let a = close_facts m c.args.s (right c) in
    here_is m.streams c.args.s a.0 c.index_mut.result.now a.1 c.index_mut.ensures.value

pub invariant_of-self : goal.invariant_of-self
invariant_of-self c =
    (close_went (tally c.self.inside) c.args.s c.index_mut.result.now c.close.new.self c.self.invariant
    (here c) (right c) c.close.ensures).reached

pub returns : goal.returns
returns c =
    told (close_went (tally c.self.inside) c.args.s c.index_mut.result.now c.close.new.self c.self.invariant
    (here c) (right c) c.close.ensures) c.self.view_is
