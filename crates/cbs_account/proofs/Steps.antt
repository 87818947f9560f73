use Rattle.std.proofs.Common.{ℕ, ◌+◌, ◌-◌, ◌*◌, ◌≡◌, ◌≤◌, ◌<◌, ◌⊎◌, arith}
use Rattle.std.specs.Prelude.{IsTrue, IsFalse}
use Rattle.std.proofs.lemmas.Bool.Decides.{nat_tests}
use Rattle.cbs_account.specs.Balance.{Balance}
use Rattle.cbs_account.specs.Rules.{recharged, after_unit, is_recharging, after_idle}

-- one unit less in the budget
abbrev pub spent : Balance → Balance
spent b = record { maximum = b.maximum; period = b.period; budget = b.budget - 1; deadline = b.deadline }

-- the last unit of a budget recharges it, and any other is spent
pub after_unit-cases : (b : Balance) → 1 ≤ b.budget
    → ((b.budget ≡ 1) × (after_unit b ≡ recharged b.deadline b)) ⊎ ((2 ≤ b.budget) × (after_unit b ≡ spent b))
after_unit-cases b positive = grind (arith, nat_tests)

-- an idle arrival that recharges
pub after_idle-recharging : (r : ℕ) (b : Balance) → IsTrue (is_recharging r b) → after_idle r b ≡ recharged r b
after_idle-recharging r b recharging = grind (arith, nat_tests)

-- an idle arrival that doesn't
pub after_idle-keeping : (r : ℕ) (b : Balance) → IsFalse (is_recharging r b) → after_idle r b ≡ b
after_idle-keeping r b keeping = grind (arith, nat_tests)

-- an idle arrival recharges, or finds less than the bandwidth's part of the time left
pub after_idle-cases : (r : ℕ) (b : Balance)
    → ((b.deadline * b.maximum ≤ b.budget * b.period + r * b.maximum) × (after_idle r b ≡ recharged r b))
    ⊎ ((b.budget * b.period + r * b.maximum < b.deadline * b.maximum) × (after_idle r b ≡ b))
after_idle-cases r b = grind (arith, nat_tests)

pub balance_fields : (q q' t t' c c' d d' : ℕ) → q ≡ q' → t ≡ t' → c ≡ c' → d ≡ d'
    → let v : Balance = record { maximum = q; period = t; budget = c; deadline = d } in let w : Balance =
    record { maximum = q'; period = t'; budget = c'; deadline = d' } in v ≡ w
balance_fields q q' t t' c c' d d' e f g h = cc

-- two balances of the same four numbers are one
pub same_balance : (a b : Balance) → a.maximum ≡ b.maximum → a.period ≡ b.period → a.budget ≡ b.budget → a.deadline ≡ b.deadline → a ≡ b
same_balance a b maximum period budget deadline =
    balance_fields a.maximum b.maximum a.period b.period a.budget b.budget a.deadline b.deadline maximum period budget deadline
