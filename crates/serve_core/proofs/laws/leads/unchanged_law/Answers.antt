use Rattle.filters.specs.ChainImage.{FrameValue}
use Rattle.serve_core.specs.Bare.{Blank}
use Rattle.serve_core.proofs.Transcripts.Openings.{unchanged_is}
use Rattle.serve_core.proofs.laws.leads.unchanged_law.Goals as goal

pub returns : goal.returns
returns c = record {
  of_frames = unchanged_is FrameValue FrameValue;
  bare = unchanged_is Blank Blank;
}
