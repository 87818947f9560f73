use Rattle.serve_core.specs.Frames.{measures, is_image}
use Rattle.serve_core.proofs.Rules.Replies.{answers}
use Rattle.serve_core.proofs.Transcripts.Sizes.{answers_after}
use Rattle.serve_core.proofs.laws.choices.answer_law.Goals as goal

pub returns : goal.returns
returns c = record { in_state = answers measures is_image; after = answers_after measures is_image }
