use Rattle.serve_core.specs.Bare.{measures_any, is_any_image}
use Rattle.serve_core.specs.Frames.{measures, is_image}
use Rattle.serve_core.proofs.Transcripts.Pasts.{charge_is}
use Rattle.serve_core.proofs.laws.charges.charge_law.Goals as goal

pub returns : goal.returns
returns c = record {
  of_frames = charge_is measures is_image;
  bare = charge_is measures_any is_any_image;
}
