use Rattle.std.proofs.Common.{◌≤◌, ◌<◌, arith, sym, ◌-◌, ◌%◌}
use Rattle.std.proofs.Math.Nat.{mod-lt}
use Rattle.cbs_account.specs.Balance.{IsInLimits}
use Rattle.cbs_account.proofs.Units.{after_units-below, after_units-from}
use Rattle.cbs_account.proofs.account.Account.charge.Goals as goal

pub returns-then-k-self : goal.returns-then-k-self
returns-then-k-self c = rw (← c.self.view_is) (sym (after_units-below c.args.k _ (omega arith) (omega arith) c.if-k-self.true))

pub invariant_of-self-2 : goal.invariant_of-self-2
invariant_of-self-2 c =
    let limits : IsInLimits c.args.self.now = rw (← c.self.view_is) c.self.invariant in
    let enough : c.args.self.now.budget ≤ c.args.k = rw (← c.self.view_is) c.if-k-self.false in
    let small : (c.args.k - c.self.inside.budget) % c.self.inside.maximum < c.self.inside.maximum = mod-lt _ (omega arith) in
    let fits = rw (
      after_units-from c.args.k c.args.self.now limits.positive limits.within_maximum enough,
      ← c.self.view_is,
    ) at c.requires.1 in
    record {
      positive = omega arith;
      within_maximum = omega arith;
      within_period = omega arith;
      short_period = omega arith;
      deadline_fits = fits;
    }

pub returns : goal.returns
returns c = rw (← c.self.view_is) (sym (after_units-from c.args.k _ (omega arith) (omega arith) c.if-k-self.false))
