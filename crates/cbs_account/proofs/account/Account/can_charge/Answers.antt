use Rattle.std.proofs.Common.{◌≤◌, ◌<◌, rules}
use Rattle.std.proofs.lemmas.Bool.Decides.{nat_tests}
use Rattle.cbs_account.specs.Balance.{IsInLimits}
use Rattle.cbs_account.proofs.Units.{after_units-below, after_units-from}
use Rattle.cbs_account.proofs.account.Account.can_charge.Goals as goal

pub returns-then-k-self : goal.returns-then-k-self
returns-then-k-self c =
    let limits : IsInLimits c.args.self.now = rw (← c.self.view_is) c.self.invariant in
    let below : c.args.k < c.args.self.now.budget = rw (← c.self.view_is) c.if-k-self.true in
    rw (after_units-below c.args.k c.args.self.now limits.positive limits.within_maximum below, ← c.self.view_is) (search rules)

pub returns : goal.returns
returns c =
    let limits : IsInLimits c.args.self.now = rw (← c.self.view_is) c.self.invariant in
    let enough : c.args.self.now.budget ≤ c.args.k = rw (← c.self.view_is) c.if-k-self.false in
    rw (after_units-from c.args.k c.args.self.now limits.positive limits.within_maximum enough, ← c.self.view_is)
    (search (rules, nat_tests))
