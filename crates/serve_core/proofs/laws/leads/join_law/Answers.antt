use Rattle.serve_core.specs.Bare.{measures_any, is_any_image}
use Rattle.serve_core.specs.Frames.{measures, is_image}
use Rattle.serve_core.proofs.Transcripts.Openings.{join_is}
use Rattle.serve_core.proofs.laws.leads.join_law.Goals as goal

pub returns : goal.returns
returns c = record {
  of_frames = join_is measures is_image;
  bare = join_is measures_any is_any_image;
}
