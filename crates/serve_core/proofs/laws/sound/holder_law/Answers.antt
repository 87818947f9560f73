use Rattle.serve_core.specs.Bare.{measures_any, is_any_image}
use Rattle.serve_core.specs.Frames.{measures, is_image}
use Rattle.serve_core.proofs.Transcripts.Pasts.{holder_is}
use Rattle.serve_core.proofs.laws.sound.holder_law.Goals as goal

pub returns : goal.returns
returns c = record {
  of_frames = holder_is measures is_image;
  bare = holder_is measures_any is_any_image;
}
