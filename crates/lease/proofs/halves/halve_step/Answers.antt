use Rattle.std.proofs.Common.{◌≡◌, length, arith, refl}
use Rattle.filters.proofs.ChainSteps.{one_step}
use Rattle.lease.proofs.Done.{done_more}
use Rattle.lease.proofs.Frames.{length-frames}
use Rattle.lease.proofs.halves.halve_step.Goals as goal

pub returns-then-op-scratch-clause-writes : goal.returns-then-op-scratch-clause-writes
returns-then-op-scratch-clause-writes g c = record {
  scratch = c.halve_between.ensures.scratch;
  canvas = c.requires.canvases.canvas;
  line = refl;
  written = λ op band is.
      let same = one_step _ _ _ _ op band c.op_of_step-op.ensures.step is in
      rw (same.0, same.1) (c.halve_between.ensures.written c.args.canvas.now);
  done = done_more _ _ _ c.args.k _ _ c.op_of_step-op.ensures.step
      (omega (arith, c.if-op-scratch.true, length-frames c.args.source.now c.args.scratch.now c.args.canvas.now))
      (c.halve_between.ensures.written c.args.canvas.now);
}

pub returns-else-op-scratch-clause-writes : goal.returns-else-op-scratch-clause-writes
returns-else-op-scratch-clause-writes g c =
    let last : c.op_of_step-op.result.0 ≡ length c.args.scratch.now =
    omega (arith, c.if-op-scratch.false, c.op_of_step-op.ensures.op, c.requires.canvases.scratch.count) in
    record {
      scratch = c.requires.canvases.scratch;
      canvas = c.halve_last.ensures.canvas;
      line = c.halve_last.ensures.line;
      written = λ op band is.
          let same = one_step _ _ _ _ op band c.op_of_step-op.ensures.step is in
          rw (same.0, same.1, last) c.halve_last.ensures.written;
      done = done_more _ _ _ c.args.k _ _ (rw last at c.op_of_step-op.ensures.step)
          (omega (arith, length-frames c.args.source.now c.args.scratch.now c.args.canvas.now))
          c.halve_last.ensures.written;
    }

pub returns-then-op-scratch-clause-noted : goal.returns-then-op-scratch-clause-noted
returns-then-op-scratch-clause-noted g c can =
    let same = one_step _ _ _ _ can.op can.band c.op_of_step-op.ensures.step can.step in
    c.halve_between.ensures.noted (rw (same.0, same.1) at can.half)

pub returns-else-op-scratch-clause-noted : goal.returns-else-op-scratch-clause-noted
returns-else-op-scratch-clause-noted g c can =
    let same = one_step _ _ _ _ can.op can.band c.op_of_step-op.ensures.step can.step in
    let last : c.op_of_step-op.result.0 ≡ length c.args.scratch.now =
    omega (arith, c.if-op-scratch.false, c.op_of_step-op.ensures.op, c.requires.canvases.scratch.count) in
    c.halve_last.ensures.noted (rw (same.0, same.1, last) at can.half)
