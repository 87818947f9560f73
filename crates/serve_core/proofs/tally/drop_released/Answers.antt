use Rattle.std.proofs.Common.{rules, not}
use Rattle.std.proofs.lemmas.Fn.{filter_same}
use Rattle.serve_core.specs.Bare.{Blank}
use Rattle.serve_core.specs.Released.{is_released}
use Rattle.serve_core.specs.States.{StreamState}
use Rattle.serve_core.proofs.tally.drop_released.Goals as goal

pub returns : goal.returns
returns c =
    filter_same _ (λ (x : StreamState Blank). not (is_released c.args.moment x)) _
    (λ x b f' k. search rules) _ _ c.retain.ensures.filtered
