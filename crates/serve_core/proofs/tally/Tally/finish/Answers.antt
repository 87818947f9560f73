use Rattle.std.proofs.Common.{None, arith, refl, slice_set}
use Rattle.std.proofs.Common.{length, subst, ◌<◌}
use Rattle.serve_core.specs.Bare.{Blank}
use Rattle.serve_core.specs.Events.{Finished, Settle}
use Rattle.serve_core.specs.States.{State}
use Rattle.serve_core.specs.TallyInside.{tally}
use Rattle.serve_core.proofs.Calls.Tallies.{Went, end_went, ends_are, held_in, its_row, some_unfinished, stream_within}
use Rattle.serve_core.proofs.Calls.Tallies.{told, worker_within}
use Rattle.serve_core.proofs.Events.Steps.{state}
use Rattle.serve_core.proofs.tally.Tally.finish.Goals as goal

pub ends-requires : goal.ends-requires
ends-requires c =
    let m = tally c.self.inside in
    let mine = held_in m c.args.self.now c.args.w c.in-Some.held c.self.view_is c.in-Some.ensures.some in
    subst (λ (m : State Blank). c.in-Some.held.stream < length m.streams) c.self.view_is
    (stream_within m c.args.w c.in-Some.held c.self.invariant mine)

pub index_mut-requires : goal.index_mut-requires
index_mut-requires c =
    let m = tally c.self.inside in
    let mine = held_in m c.args.self.now c.args.w c.in-Some.held c.self.view_is c.in-Some.ensures.some in
    omega (arith, stream_within m c.args.w c.in-Some.held c.self.invariant mine, c.self.inside.rows.ok.0)

pub finish-requires : goal.finish-requires
finish-requires c =
    let m = tally c.self.inside in
    let l = c.in-Some.held in
    let mine = held_in m c.args.self.now c.args.w l c.self.view_is c.in-Some.ensures.some in
    let here = its_row m c.args.w l c.index_mut.result.now c.self.invariant mine c.index_mut.ensures.value in
    some_unfinished m c.args.w l c.index_mut.result.now c.self.invariant mine here

pub index_mut-requires-2 : goal.index_mut-requires-2
index_mut-requires-2 c =
    let m = tally c.self.inside in
    let mine = held_in m c.args.self.now c.args.w c.in-Some.held c.self.view_is c.in-Some.ensures.some in
    omega (arith, worker_within m c.args.w c.in-Some.held mine, c.self.inside.workers.ok.0)

ended : (c : goal.After-self-2-1) → Went (tally c.self.inside) (Settle c.args.w) (Finished c.args.number)
    (state c.self.inside.clock c.self.inside.quantum
    (slice_set c.self.inside.rows.items c.in-Some.held.stream c.finish.new.self)
    (slice_set c.self.inside.workers.items c.args.w None))
ended c =
    let m = tally c.self.inside in
    let l = c.in-Some.held in
    let x = c.index_mut.result.now in
    let mine = held_in m c.args.self.now c.args.w l c.self.view_is c.in-Some.ensures.some in
    let here = its_row m c.args.w l x c.self.invariant mine c.index_mut.ensures.value in
    let all = ends_are m c.args.self.now l.stream c.args.number x c.self.view_is (c.if-not-ends.ensures.0 refl) here in
    end_went m c.args.w c.args.number l x c.finish.new.self c.self.invariant mine here all.0 all.1 c.finish.ensures

pub invariant_of-self : goal.invariant_of-self
invariant_of-self c = (ended c).reached

pub returns : goal.returns
returns c = told (ended c) c.self.view_is
