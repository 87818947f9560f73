use Rattle.serve_core.specs.Bare.{measures_any, is_any_image}
use Rattle.serve_core.specs.Frames.{measures, is_image}
use Rattle.serve_core.proofs.Events.Kept.{step_sound}
use Rattle.serve_core.proofs.laws.sound.sound_step_law.Goals as goal

pub returns : goal.returns
returns c = record {
  of_frames = step_sound measures is_image;
  bare = step_sound measures_any is_any_image;
}
