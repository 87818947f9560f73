use Rattle.serve_core.specs.Frames.{measures, is_image}
use Rattle.serve_core.proofs.Transcripts.Sizes.{sized_is}
use Rattle.serve_core.proofs.laws.choices.sized_law.Goals as goal

pub returns : goal.returns
returns c = sized_is measures is_image
