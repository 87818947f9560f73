use Rattle.filters.specs.ChainImage.{FrameValue}
use Rattle.serve_core.specs.Bare.{Blank}
use Rattle.serve_core.proofs.Events.Changes.{refusals_leave}
use Rattle.serve_core.proofs.laws.choices.refused_law.Goals as goal

pub returns : goal.returns
returns c = record { of_frames = refusals_leave FrameValue; bare = refusals_leave Blank }
