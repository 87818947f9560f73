use Rattle.std.proofs.Common.{rules, arith, IfOk}
use Rattle.std.proofs.lemmas.Grind.{common_steps}
use Rattle.serve_hub.specs.Calls.{Collects}
use Rattle.serve_hub.proofs.Giving.{refused}
use Rattle.serve_hub.proofs.hub.Hub.collect_or_wait.Goals as goal

pub returns-in_default-clause-refused : goal.returns-in_default-clause-refused
returns-in_default-clause-refused g c =
    let given : IfOk c.in_default-1.answer (λ pair. Collects pair c.args.seat.now c.collect.new.self) = grind (arith, common_steps) in
    refused _ c.compare.result c.args.seat.now c.collect.new.self _ given (grind (arith, common_steps)) (grind (arith, common_steps))
    c.compare.ensures.refused

pub returns-in-Some-end_of_wait-clause-waited : goal.returns-in-Some-end_of_wait-clause-waited
returns-in-Some-end_of_wait-clause-waited c = search rules
