use Rattle.serve_core.specs.Frames.{measures, is_image}
use Rattle.serve_core.proofs.Rules.Choices.{one_choice}
use Rattle.serve_core.proofs.Rules.Images.{determined}
use Rattle.serve_core.proofs.laws.choices.one_choice_law.Goals as goal

pub returns : goal.returns
returns c = record { determined = determined; one_choice = one_choice measures is_image }
