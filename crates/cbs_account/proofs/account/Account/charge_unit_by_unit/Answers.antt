use Rattle.std.proofs.Common.{◌≤◌, suc, arith}
use Rattle.cbs_account.proofs.Units.{deadline_rises_to}
use Rattle.cbs_account.proofs.account.Account.charge_unit_by_unit.Goals as goal

pub charge_unit-requires : goal.charge_unit-requires
charge_unit-requires c =
    let here : suc c.loop-unit._unit ≤ c.args.k = omega arith in
    rw c.loop-unit.invariant (omega (arith, deadline_rises_to (suc c.loop-unit._unit) c.args.k c.args.self.now here))
