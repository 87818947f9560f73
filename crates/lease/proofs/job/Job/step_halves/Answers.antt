use Rattle.std.proofs.Common.{◌≡◌, ◌+◌, ◌<◌, ◌++◌, Some, length, take, drop, arith, ap, sym, ◌∙◌, subst}
use Rattle.std.proofs.Math.Seq.{take-append_seam}
use Rattle.std.specs.Arc.{arc_value}
use Rattle.frame_view.specs.declared.frame.Frame.{Frame}
use Rattle.filters.specs.Steps.{steps_of}
use Rattle.lease.specs.JobInside.{job_of}
use Rattle.lease.specs.Job.{AreDone, frames_by}
use Rattle.lease.proofs.Jobs.{stays_job, steps_on}
use Rattle.lease.proofs.job.Job.step_halves.Goals as goal
use Rattle.lease.proofs.job.Job.step_halves.Given.{Over}

chain_is : (g : Over) (c : goal.After-self-2-1 g) → c.chain.result.now ≡ arc_value c.self.inside.spec
chain_is g c = c.chain.ensures ∙ c.deref.ensures

started : (g : Over) (c : goal.After-self-2-1 g) → c.self.inside.scratch ≡ Some c.deref_mut.result.now
started g c = c.in-Some.is ∙ ap Some (sym c.scratch.view_is ∙ sym c.deref_mut.ensures.value)

-- all canvases were lent
whole : (g : Over) (c : goal.After-self-2-1 g)
    → take c.scratch.inside.canvases.len
    (c.halve_step.new.scratch ++ drop (length c.halve_step.new.scratch) c.scratch.inside.canvases.items)
    ≡ c.halve_step.new.scratch
whole g c =
    let len : c.scratch.inside.canvases.len ≡ length c.halve_step.new.scratch =
    omega (arith, c.deref_mut.ensures.len, c.halve_step.auto.scratch) in
    ap (λ n. take n
    (c.halve_step.new.scratch ++ drop
    (length c.halve_step.new.scratch) c.scratch.inside.canvases.items)) len ∙ take-append_seam _ _

pub invariant_of-self : goal.invariant_of-self
invariant_of-self g c =
    let left : c.self.inside.done < steps_of (arc_value c.self.inside.spec) =
    rw (sym c.self.view_is) at c.requires.left in
    let Next : Frame → Type 0 =
    λ source. AreDone (arc_value c.self.inside.spec)
    (frames_by source c.deref_mut.result.now c.self.inside.canvas) c.self.inside.done
    → AreDone (arc_value c.self.inside.spec)
    (frames_by source c.halve_step.new.scratch c.halve_step.new.canvas) (c.self.inside.done + 1) in
    rw (whole g c) (stays_job
    (job_of c.self.inside) _ c.halve_step.new.scratch c.halve_step.new.canvas c.self.invariant
    (started g c) left
    (rw (chain_is g c) at c.halve_step.ensures.writes.scratch)
    (rw (chain_is g c) at c.halve_step.ensures.writes.canvas) c.halve_step.ensures.writes.line
    (subst Next c.deref-2.ensures (rw (chain_is g c) at c.halve_step.ensures.writes.done)))

pub returns-clause-step : goal.returns-clause-step
returns-clause-step g c =
    rw (sym c.self.view_is, whole g c)
    (steps_on (job_of c.self.inside) _ c.halve_step.new.scratch c.halve_step.new.canvas (started g c)
    (rw (chain_is g c, c.deref-2.ensures) at c.halve_step.ensures.writes.written))

pub returns-clause-noted : goal.returns-clause-noted
returns-clause-noted g c can =
    c.halve_step.ensures.noted (rw (chain_is g c) (rw (sym c.self.view_is) at can))
