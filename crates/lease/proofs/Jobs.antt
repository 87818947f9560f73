-- Jobs, one step more at a time.
use Rattle.std.proofs.Common.{ℕ, ◌≡◌, ◌+◌, ◌<◌, List, Some, arith, refl, sym, ap, ◌∙◌, subst, []}
use Rattle.std.proofs.lemmas.Option.{same_Some, none-some}
use Rattle.std.specs.Option.{unwrap_or}
use Rattle.frame_view.specs.declared.frame.Frame.{Frame}
use Rattle.frame_view.specs.Frame.{line_of}
use Rattle.row_bands.specs.declared.canvas.Canvas.{Canvas}
use Rattle.row_bands.specs.Canvas.{frame_of}
use Rattle.filters.specs.Steps.{IsStep, counts_of, steps_of}
use Rattle.lease.specs.Canvases.{IsImageCanvas, IsScratch}
use Rattle.lease.specs.Job.{JobValue, IsJob, AreDone, WritesBand, StepsOn, frames_by, frames_of}

-- a job with other canvases and one step more
abbrev pub stepped : JobValue → List Canvas → Canvas → JobValue
stepped job scratch canvas = record job { scratch = Some scratch; canvas = canvas; done = job.done + 1 }

pub frames_started : (job : JobValue) (scratch : List Canvas) → job.scratch ≡ Some scratch
    → frames_of job ≡ frames_by job.source scratch job.canvas
frames_started job scratch e = ap (λ held. frames_by job.source (unwrap_or held []) job.canvas) e

pub stays_job : (job : JobValue) (scratch scratch' : List Canvas) (canvas : Canvas) → IsJob job
    → job.scratch ≡ Some scratch → job.done < steps_of job.chain
    → IsScratch job.chain scratch' → IsImageCanvas job.chain canvas
    → line_of (frame_of canvas) ≡ line_of (frame_of job.canvas)
    → (AreDone job.chain (frames_by job.source scratch job.canvas) job.done → AreDone job.chain
    (frames_by job.source scratch' canvas) (job.done + 1))
    → IsJob (stepped job scratch' canvas)
stays_job job scratch scratch' canvas is e left fits size line next =
    let P : List Frame → Type 0 = λ frames. AreDone job.chain frames job.done in
    record {
      geometry = is.geometry;
      canvas = size;
      line = line ∙ is.line;
      scratch = λ held same. rw (sym (same_Some scratch' held same)) fits;
      waits = λ none. absurd (none-some scratch' (sym none));
      within = omega (arith, left);
      are_done = next (subst P (frames_started job scratch e) is.are_done);
    }

pub steps_on : (job : JobValue) (scratch scratch' : List Canvas) (canvas : Canvas)
    → job.scratch ≡ Some scratch
    → ((op band : ℕ) → IsStep (counts_of job.chain) job.done op band → WritesBand job.chain op band
    (frames_by job.source scratch job.canvas) (frames_by job.source scratch' canvas))
    → StepsOn job (stepped job scratch' canvas)
steps_on job scratch scratch' canvas e written = record {
  kept = refl;
  written = λ op band is.
      let P : List Frame → Type 0 =
      λ frames. WritesBand job.chain op band frames (frames_by job.source scratch' canvas) in
      subst P (sym (frames_started job scratch e)) (written op band is);
}
