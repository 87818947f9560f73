use Rattle.std.proofs.Common.{rules}
use Rattle.std.proofs.lemmas.Fn.{filter_same}
use Rattle.serve_report.specs.Holdings.{holds_at}
use Rattle.serve_report.proofs.control.holders.Holders.retire.Goals as goal

pub returns-clause-left : goal.returns-clause-left
returns-clause-left c =
    filter_same _ (holds_at c.args.self.now.moment) _ (λ x b f' k. search rules) _ _ c.retain.ensures.filtered
