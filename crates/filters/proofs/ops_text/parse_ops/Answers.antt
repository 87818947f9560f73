use Rattle.std.proofs.Common.{refl, rules}
use Rattle.filters.proofs.ops_text.parse_ops.Goals as goal

pub returns-then-count-gt-MOST_OPS-clause-many : goal.returns-then-count-gt-MOST_OPS-clause-many
returns-then-count-gt-MOST_OPS-clause-many c = (λ _. search rules, λ _. refl)
