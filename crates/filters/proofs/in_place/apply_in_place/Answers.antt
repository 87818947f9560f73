use Rattle.std.proofs.Common.{rules}
use Rattle.filters.proofs.Changed.{changed}
use Rattle.filters.proofs.in_place.apply_in_place.Goals as goal

pub returns-clause-image : goal.returns-clause-image
returns-clause-image c = changed c.args.table c.args.frame.now _ (search rules)
