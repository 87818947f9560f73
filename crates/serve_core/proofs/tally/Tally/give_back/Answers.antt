use Rattle.std.proofs.Common.{None, arith, slice_set}
use Rattle.serve_core.specs.Events.{Returned, Settle}
use Rattle.serve_core.specs.TallyInside.{tally}
use Rattle.serve_core.proofs.Calls.Tallies.{Went, back_went, back_wrong, held_in, is_left, its_row, stream_within, told}
use Rattle.serve_core.proofs.Calls.Tallies.{worker_within}
use Rattle.serve_core.proofs.Events.Steps.{state}
use Rattle.serve_core.proofs.tally.Tally.give_back.Goals as goal

pub index-requires : goal.index-requires
index-requires c =
    let m = tally c.self.inside in
    let mine = held_in m c.args.self.now c.args.w c.in-Some.held c.self.view_is c.in-Some.ensures.some in
    omega (arith, stream_within m c.args.w c.in-Some.held c.self.invariant mine, c.self.inside.rows.ok.0)

pub returns-then-is_done : goal.returns-then-is_done
returns-then-is_done c =
    back_wrong (tally c.self.inside) c.args.self.now c.args.w c.in-Some.held c.index.result.now c.self.invariant
    c.self.view_is c.in-Some.ensures.some c.index.ensures c.if-is_done.ensures

pub index_mut-requires : goal.index_mut-requires
index_mut-requires c =
    let m = tally c.self.inside in
    let mine = held_in m c.args.self.now c.args.w c.in-Some.held c.self.view_is c.in-Some.ensures.some in
    omega (arith, stream_within m c.args.w c.in-Some.held c.self.invariant mine, c.self.inside.rows.ok.0)

pub index_mut-requires-2 : goal.index_mut-requires-2
index_mut-requires-2 c =
    let m = tally c.self.inside in
    let mine = held_in m c.args.self.now c.args.w c.in-Some.held c.self.view_is c.in-Some.ensures.some in
    omega (arith, worker_within m c.args.w c.in-Some.held mine, c.self.inside.workers.ok.0)

given : (c : goal.After-self-2-1) → Went (tally c.self.inside) (Settle c.args.w) Returned
    (state c.self.inside.clock c.self.inside.quantum
    (slice_set c.self.inside.rows.items c.in-Some.held.stream c.put_back.new.self)
    (slice_set c.self.inside.workers.items c.args.w None))
given c =
    let m = tally c.self.inside in
    let l = c.in-Some.held in
    let mine = held_in m c.args.self.now c.args.w l c.self.view_is c.in-Some.ensures.some in
    let here = its_row m c.args.w l c.index_mut.result.now c.self.invariant mine c.index_mut.ensures.value in
    let was = its_row m c.args.w l c.index.result.now c.self.invariant mine c.index.ensures in
    back_went m c.args.w l c.index_mut.result.now c.put_back.new.self c.self.invariant mine here
    (is_left m l c.index.result.now c.index_mut.result.now was here c.if-is_done.ensures) c.put_back.ensures

pub invariant_of-self : goal.invariant_of-self
invariant_of-self c = (given c).reached

pub returns : goal.returns
returns c = told (given c) c.self.view_is
