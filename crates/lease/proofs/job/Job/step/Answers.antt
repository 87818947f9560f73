use Rattle.std.proofs.Common.{◌≡◌, ◌+◌, ◌<◌, ◌++◌, Some, length, take, drop, arith, ap, sym, ◌∙◌, subst}
use Rattle.std.proofs.Math.Seq.{take-append_seam}
use Rattle.std.specs.Arc.{arc_value}
use Rattle.frame_view.specs.declared.frame.Frame.{Frame}
use Rattle.filters.specs.Steps.{steps_of}
use Rattle.lease.specs.JobInside.{job_of}
use Rattle.lease.specs.Job.{AreDone, frames_by}
use Rattle.lease.proofs.Jobs.{stays_job, steps_on}
use Rattle.lease.proofs.job.Job.step.Goals as goal

chain_is : (c : goal.After-self-2-1) → c.chain.result.now ≡ arc_value c.self.inside.spec
chain_is c = c.chain.ensures ∙ c.deref.ensures

started : (c : goal.After-self-2-1) → c.self.inside.scratch ≡ Some c.deref_mut.result.now
started c = c.in-Some.is ∙ ap Some (sym c.scratch.view_is ∙ sym c.deref_mut.ensures.value)

-- all canvases were lent
whole : (c : goal.After-self-2-1)
    → take c.scratch.inside.canvases.len
    (c.do_step.new.scratch ++ drop (length c.do_step.new.scratch) c.scratch.inside.canvases.items)
    ≡ c.do_step.new.scratch
whole c =
    let len : c.scratch.inside.canvases.len ≡ length c.do_step.new.scratch =
    omega (arith, c.deref_mut.ensures.len, c.do_step.auto.scratch) in
    ap (λ n. take n
    (c.do_step.new.scratch ++ drop
    (length c.do_step.new.scratch) c.scratch.inside.canvases.items)) len ∙ take-append_seam _ _

pub invariant_of-self : goal.invariant_of-self
invariant_of-self c =
    let left : c.self.inside.done < steps_of (arc_value c.self.inside.spec) =
    rw (sym c.self.view_is) at c.requires.left in
    let Next : Frame → Type 0 =
    λ source. AreDone (arc_value c.self.inside.spec)
    (frames_by source c.deref_mut.result.now c.self.inside.canvas) c.self.inside.done
    → AreDone (arc_value c.self.inside.spec)
    (frames_by source c.do_step.new.scratch c.do_step.new.canvas) (c.self.inside.done + 1) in
    rw (whole c) (stays_job
    (job_of c.self.inside) _ c.do_step.new.scratch c.do_step.new.canvas c.self.invariant
    (started c) left
    (rw (chain_is c) at c.do_step.ensures.scratch)
    (rw (chain_is c) at c.do_step.ensures.canvas) c.do_step.ensures.line
    (subst Next c.deref-2.ensures (rw (chain_is c) at c.do_step.ensures.done)))

pub returns-clause-step : goal.returns-clause-step
returns-clause-step c =
    rw (sym c.self.view_is, whole c)
    (steps_on (job_of c.self.inside) _ c.do_step.new.scratch c.do_step.new.canvas (started c)
    (rw (chain_is c, c.deref-2.ensures) at c.do_step.ensures.written))
