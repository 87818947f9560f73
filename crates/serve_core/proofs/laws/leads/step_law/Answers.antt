use Rattle.serve_core.specs.Bare.{measures_any, is_any_image}
use Rattle.serve_core.specs.Frames.{measures, is_image}
use Rattle.serve_core.proofs.Transcripts.Openings.{step_is}
use Rattle.serve_core.proofs.laws.leads.step_law.Goals as goal

pub returns : goal.returns
returns c = record {
  of_frames = step_is measures is_image;
  bare = step_is measures_any is_any_image;
}
