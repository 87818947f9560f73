use Rattle.serve_core.specs.Bare.{measures_any, is_any_image}
use Rattle.serve_core.specs.Frames.{measures, is_image}
use Rattle.serve_core.proofs.Schedules.Retiring.{number_is}
use Rattle.serve_core.proofs.Transcripts.Alone.{retire_is, retired_is}
use Rattle.serve_core.proofs.laws.admissions.retire_law.Goals as goal

pub returns : goal.returns
returns c = record {
  of_frames = retired_is measures is_image;
  bare = retired_is measures_any is_any_image;
  reached = retire_is measures_any is_any_image;
  numbers = number_is;
}
