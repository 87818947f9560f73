use Rattle.std.proofs.Common.{rules, not}
use Rattle.std.proofs.lemmas.Fn.{filter_same}
use Rattle.serve_core.specs.Released.{is_released}
use Rattle.serve_core.specs.Streams.{KeptStream}
use Rattle.serve_core.proofs.schedule.drop_released.Goals as goal

pub returns-clause-streams : goal.returns-clause-streams
returns-clause-streams c =
    filter_same _ (λ (stream : KeptStream). not (is_released c.args.moment stream.state)) _
    (λ x b f' k. search rules) _ _ c.retain.ensures.filtered
