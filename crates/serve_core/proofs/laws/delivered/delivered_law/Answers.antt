use Rattle.serve_core.specs.Frames.{measures, is_image}
use Rattle.serve_core.proofs.Transcripts.Pasts.{delivered_is}
use Rattle.serve_core.proofs.laws.delivered.delivered_law.Goals as goal

pub returns : goal.returns
returns c = delivered_is measures is_image
