use Rattle.std.proofs.Common.{◌≡◌, arith, sym}
use Rattle.filters.specs.Steps.{steps_of}
use Rattle.lease.specs.JobInside.{job_of}
use Rattle.lease.proofs.Images.{image_of_job}
use Rattle.lease.proofs.job.Job.into_image.Goals as goal

pub unreachable-requires : goal.unreachable-requires
unreachable-requires c =
    let none = c.self.invariant.waits c.in_default.is in
    let all : c.self.inside.done ≡ steps_of (job_of c.self.inside).chain =
    rw (sym c.self.view_is) at c.requires in
    omega (arith, none, all, c.steps.ensures.positive, rw (sym c.self.view_is) at c.steps.ensures.value)

pub returns-clause-image : goal.returns-clause-image
returns-clause-image c =
    let all : c.self.inside.done ≡ steps_of (job_of c.self.inside).chain =
    rw (sym c.self.view_is) at c.requires in
    rw (sym c.self.view_is, c.into_frame-image.ensures)
    (image_of_job (job_of c.self.inside) _ c.self.invariant c.in-Some.is all)
