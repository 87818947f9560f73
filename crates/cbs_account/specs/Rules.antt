use Rattle.std.specs.Prelude.{ℕ, ◌+◌, ◌-◌, ◌*◌, ◌^◌, ◌≤◌, ◌<◌, List, [], ◌∷◌, replicate}
use Rattle.std.specs.Prelude.{Bool, nat_eq, nat_le, if◌then◌else◌}
use Rattle.cbs_account.specs.declared.limits.TheConstants.{DEADLINE_END, MOST_UNITS}
use Rattle.cbs_account.specs.Balance.{Balance, balance, opened}

-- what happens to one server: one unit of its work is done, or a job arrives at a moment and finds it idle
pub data OwnEvent : Type 0 where
  UnitOfWork : OwnEvent
  Idle : (moment : ℕ) → OwnEvent

-- the whole budget, and a deadline one period after this moment
abbrev pub recharged : ℕ → Balance → Balance
recharged moment b = balance b.maximum b.period b.maximum (moment + b.period)

-- one unit lowers the budget by one; a budget that ends is recharged at once, counted from the old deadline
abbrev pub after_unit : Balance → Balance
after_unit b =
    if nat_eq (b.budget - 1) 0
    then recharged b.deadline b
    else balance b.maximum b.period (b.budget - 1) b.deadline

-- the test of an idle arrival at r, c * T >= (d - r) * Q over signed numbers: the budget c that is left is no
-- less than the bandwidth's part of the time up to the deadline d
abbrev pub is_recharging : ℕ → Balance → Bool
is_recharging r b = nat_le (b.deadline * b.maximum) (b.budget * b.period + r * b.maximum)

abbrev pub after_idle : ℕ → Balance → Balance
after_idle r b = if is_recharging r b then recharged r b else b

abbrev pub after : Balance → OwnEvent → Balance
after b UnitOfWork = after_unit b
after b (Idle r) = after_idle r b

-- a past of events, the latest first, that began at b
abbrev pub after_all : Balance → List OwnEvent → Balance
after_all b [] = b
after_all b (event ∷ past) = after (after_all b past) event

-- the constant bandwidth server of maximum budget q and period t, after its own events, the latest first
abbrev pub cbs : ℕ → ℕ → List OwnEvent → Balance
cbs q t events = after_all (opened q t) events

-- k units in a row
abbrev pub after_units : ℕ → Balance → Balance
after_units k b = after_all b (replicate k UnitOfWork)

-- k units stay within the numbers of the program
abbrev pub CanCharge : ℕ → Balance → Type 0
CanCharge k b = (k ≤ MOST_UNITS) × ((after_units k b).deadline < DEADLINE_END)
