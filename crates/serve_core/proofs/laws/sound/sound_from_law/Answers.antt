use Rattle.serve_core.specs.Bare.{measures_any, is_any_image}
use Rattle.serve_core.specs.Frames.{measures, is_image}
use Rattle.serve_core.proofs.Transcripts.Openings.{sound_from}
use Rattle.serve_core.proofs.laws.sound.sound_from_law.Goals as goal

pub returns : goal.returns
returns c = record {
  of_frames = sound_from measures is_image;
  bare = sound_from measures_any is_any_image;
}
