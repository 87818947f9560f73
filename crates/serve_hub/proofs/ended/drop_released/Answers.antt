use Rattle.std.proofs.Common.{rules}
use Rattle.std.proofs.lemmas.Fn.{filter_same}
use Rattle.serve_core.specs.Retired.{stays}
use Rattle.serve_hub.specs.Seats.{StreamRest}
use Rattle.serve_hub.proofs.ended.drop_released.Goals as goal

pub returns : goal.returns
returns c =
    filter_same _ (λ (rest : StreamRest). stays c.args.desk.now rest.number) _
    (λ x b f' k. search rules) _ _ c.retain.ensures.filtered
