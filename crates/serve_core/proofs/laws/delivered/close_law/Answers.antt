use Rattle.serve_core.specs.Bare.{measures_any, is_any_image}
use Rattle.serve_core.specs.Frames.{measures, is_image}
use Rattle.serve_core.proofs.Transcripts.Endings.{close_is}
use Rattle.serve_core.proofs.laws.delivered.close_law.Goals as goal

pub returns : goal.returns
returns c = record {
  of_frames = close_is measures is_image;
  bare = close_is measures_any is_any_image;
}
