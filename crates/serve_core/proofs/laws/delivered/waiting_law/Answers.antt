use Rattle.serve_core.specs.Bare.{measures_any, is_any_image}
use Rattle.serve_core.specs.Frames.{measures, is_image}
use Rattle.serve_core.proofs.Transcripts.Pasts.{waiting_is}
use Rattle.serve_core.proofs.laws.delivered.waiting_law.Goals as goal

pub returns : goal.returns
returns c = record {
  of_frames = waiting_is measures is_image;
  bare = waiting_is measures_any is_any_image;
}
