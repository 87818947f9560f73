use Rattle.std.proofs.Common.{◌≡◌, Some, refl, slice_get}
use Rattle.serve_core.specs.Events.{Accepted, Arrive}
use Rattle.serve_core.specs.Tally.{IsRightReply}
use Rattle.serve_core.specs.TallyInside.{tally}
use Rattle.serve_core.proofs.Calls.Tallies.{arrive_facts, arrive_went, few_accepted, here_is, reached_sound, right_in, told}
use Rattle.serve_core.proofs.tally.Tally.arrive.Goals as goal

right : (c : goal.After-index_mut) → IsRightReply (tally c.self.inside) (Arrive c.args.s tt) (Accepted c.args.number)
right c =
    right_in (Arrive c.args.s tt) (Accepted c.args.number) c.self.view_is (c.if-not-may_arrive.ensures.0 refl)

here : (c : goal.After-index_mut) → slice_get (tally c.self.inside).streams c.args.s ≡ Some c.index_mut.result.now
here c =
    let m = tally c.self.inside in
    let a = arrive_facts m c.args.s c.args.number (right c) in
    here_is m.streams c.args.s a.0 c.index_mut.result.now a.1 c.index_mut.ensures.value

pub come-requires-clause-clock : goal.come-requires-clause-clock
come-requires-clause-clock c = (reached_sound (tally c.self.inside) c.self.invariant).clock

pub come-requires-clause-few : goal.come-requires-clause-few
come-requires-clause-few c =
    (few_accepted (tally c.self.inside) c.args.s c.index_mut.result.now c.self.invariant (here c)).1

pub invariant_of-self : goal.invariant_of-self
invariant_of-self c =
    (arrive_went (tally c.self.inside) c.args.s c.args.number c.index_mut.result.now c.come.new.self c.self.invariant
    (here c.before.before) (right c.before.before) c.come.ensures).reached

pub returns : goal.returns
returns c =
    told (arrive_went (tally c.self.inside) c.args.s c.args.number c.index_mut.result.now c.come.new.self
    c.self.invariant (here c.before.before) (right c.before.before) c.come.ensures) c.self.view_is
