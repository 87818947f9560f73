use Rattle.serve_core.specs.Bare.{measures_any, is_any_image}
use Rattle.serve_core.proofs.Transcripts.Reached.{few_is, over_is, over_join_is, reached_is}
use Rattle.serve_core.proofs.laws.leads.reached_law.Goals as goal

pub returns : goal.returns
returns c = record {
  over = over_is measures_any is_any_image;
  reached = reached_is measures_any is_any_image;
  joined = over_join_is measures_any is_any_image;
  within_limits = few_is measures_any is_any_image;
}
