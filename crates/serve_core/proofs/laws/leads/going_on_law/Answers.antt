use Rattle.serve_core.specs.Bare.{measures_any, is_any_image}
use Rattle.serve_core.specs.Frames.{measures, is_image}
use Rattle.serve_core.proofs.Transcripts.Openings.{going_on_is}
use Rattle.serve_core.proofs.laws.leads.going_on_law.Goals as goal

pub returns : goal.returns
returns c = record {
  of_frames = going_on_is measures is_image;
  bare = going_on_is measures_any is_any_image;
}
