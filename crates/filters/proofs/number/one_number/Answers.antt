use Rattle.filters.proofs.Numbers.{not_only_one}
use Rattle.filters.proofs.number.one_number.Goals as goal

pub returns-in-Some : goal.returns-in-Some
returns-in-Some c = not_only_one _ _ _ _ c.in-Some.is c.in_ok-number.ensures
