use Rattle.std.proofs.Common.{◌≡◌, ◌+◌, Some, arith, refl, rules, slice_get, slice_set}
use Rattle.serve_core.specs.declared.held.Held.{Held}
use Rattle.serve_core.specs.Events.{Band, Stepped}
use Rattle.serve_core.specs.TallyInside.{tally}
use Rattle.serve_core.proofs.Calls.Tallies.{Went, band_went, can_step, held_in, its_row, more_used, stream_within, told}
use Rattle.serve_core.proofs.Calls.Tallies.{worker_within}
use Rattle.serve_core.proofs.Events.Steps.{state}
use Rattle.serve_core.proofs.tally.Tally.band.Goals as goal

pub index_mut-requires : goal.index_mut-requires
index_mut-requires c =
    let m = tally c.self.inside in
    let mine = held_in m c.args.self.now c.args.w c.in-Some.held c.self.view_is c.in-Some.ensures.some in
    omega (arith, stream_within m c.args.w c.in-Some.held c.self.invariant mine, c.self.inside.rows.ok.0)

abbrev one_more : Held → Held
one_more l = record { stream = l.stream; number = l.number; grant = l.grant; used = l.used + 1 }

mine : (c : goal.After-index_mut) → slice_get (tally c.self.inside).workers c.args.w ≡ Some (Some c.in-Some.held)
mine c = held_in (tally c.self.inside) c.args.self.now c.args.w c.in-Some.held c.self.view_is c.in-Some.ensures.some

here : (c : goal.After-index_mut)
    → slice_get (tally c.self.inside).streams c.in-Some.held.stream ≡ Some c.index_mut.result.now
here c =
    its_row (tally c.self.inside) c.args.w c.in-Some.held c.index_mut.result.now c.self.invariant (mine c)
    c.index_mut.ensures.value

pub step-requires-clause-left : goal.step-requires-clause-left
step-requires-clause-left c =
    (can_step (tally c.self.inside) c.args.w c.in-Some.held c.index_mut.result.now c.self.invariant (mine c) (here c)
    c.if-held.false).0

pub step-requires-clause-charge : goal.step-requires-clause-charge
step-requires-clause-charge c =
    (can_step (tally c.self.inside) c.args.w c.in-Some.held c.index_mut.result.now c.self.invariant (mine c) (here c)
    c.if-held.false).1

pub step-requires-clause-no_overflow : goal.step-requires-clause-no_overflow
step-requires-clause-no_overflow c =
    (can_step (tally c.self.inside) c.args.w c.in-Some.held c.index_mut.result.now c.self.invariant (mine c) (here c)
    c.if-held.false).2

pub overflow_add-held : goal.overflow_add-held
overflow_add-held c =
    let m = tally c.self.inside in
    let mine = held_in m c.args.self.now c.args.w c.in-Some.held c.self.view_is c.in-Some.ensures.some in
    let more = more_used m c.args.w c.in-Some.held c.self.invariant mine c.if-held.false in
    search (rules, more)

pub index_mut-requires-2 : goal.index_mut-requires-2
index_mut-requires-2 c =
    let m = tally c.self.inside in
    let mine = held_in m c.args.self.now c.args.w c.in-Some.held c.self.view_is c.in-Some.ensures.some in
    omega (arith, worker_within m c.args.w c.in-Some.held mine, c.self.inside.workers.ok.0)

stepped : (c : goal.After-self-2-1) → Went (tally c.self.inside) (Band c.args.w) Stepped
    (state c.self.inside.clock c.self.inside.quantum
    (slice_set c.self.inside.rows.items c.in-Some.held.stream c.step.new.self)
    (slice_set c.self.inside.workers.items c.args.w (Some (one_more c.in-Some.held))))
stepped c =
    let m = tally c.self.inside in
    let l = c.in-Some.held in
    let mine = held_in m c.args.self.now c.args.w l c.self.view_is c.in-Some.ensures.some in
    let here = its_row m c.args.w l c.index_mut.result.now c.self.invariant mine c.index_mut.ensures.value in
    band_went m c.args.w l (one_more l) c.index_mut.result.now c.step.new.self c.self.invariant mine here
    c.if-held.false refl c.step.ensures

pub invariant_of-self : goal.invariant_of-self
invariant_of-self c = (stepped c).reached

pub returns : goal.returns
returns c = told (stepped c) c.self.view_is
