use Rattle.serve_core.specs.Frames.{measures, is_image}
use Rattle.serve_core.proofs.Transcripts.Headlines.{headline_is}
use Rattle.serve_core.proofs.laws.delivered.headline.Goals as goal

pub returns : goal.returns
returns c = headline_is measures is_image
