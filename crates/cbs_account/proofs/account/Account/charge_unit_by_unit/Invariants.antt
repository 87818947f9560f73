use Rattle.std.proofs.Common.{◌≡◌}
use Rattle.cbs_account.specs.Rules.{after_units}
use Rattle.cbs_account.proofs.account.Account.charge_unit_by_unit.Given as goal

abbrev pub invariant-loop-unit : goal.invariant-loop-unit
invariant-loop-unit l = l.self ≡ after_units l._unit l.fn.self
