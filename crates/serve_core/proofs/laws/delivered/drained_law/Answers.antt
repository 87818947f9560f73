use Rattle.serve_core.specs.Bare.{measures_any, is_any_image}
use Rattle.serve_core.specs.Frames.{measures, is_image}
use Rattle.serve_core.proofs.Transcripts.Endings.{drained_is}
use Rattle.serve_core.proofs.laws.delivered.drained_law.Goals as goal

pub returns : goal.returns
returns c = record {
  of_frames = drained_is measures is_image;
  bare = drained_is measures_any is_any_image;
}
