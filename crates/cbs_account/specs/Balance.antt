use Rattle.std.specs.Prelude.{ℕ, ◌≤◌, ◌<◌}
use Rattle.cbs_account.specs.declared.limits.TheConstants.{DEADLINE_END, LONGEST_PERIOD}

-- where a server stands: its maximum budget Q and its period T, which never change, and the budget c and the
-- deadline d that it has at the moment
pub record Balance : Type 0 where
  pub maximum : ℕ
  pub period : ℕ
  pub budget : ℕ
  pub deadline : ℕ

abbrev pub balance : ℕ → ℕ → ℕ → ℕ → Balance
balance maximum period budget deadline =
    record { maximum = maximum; period = period; budget = budget; deadline = deadline }

-- a new server of maximum budget q and period t has its whole budget
abbrev pub opened : ℕ → ℕ → Balance
opened q t = balance q t q 0

-- q units in every t: at least one, and at most all of them
abbrev pub IsBandwidth : ℕ → ℕ → Type 0
IsBandwidth q t = (1 ≤ q) × (q ≤ t) × (t ≤ LONGEST_PERIOD)

-- what an account of the program keeps
pub record IsInLimits (b : Balance) : Type 0 where
  pub positive : 1 ≤ b.budget
  pub within_maximum : b.budget ≤ b.maximum
  pub within_period : b.maximum ≤ b.period
  pub short_period : b.period ≤ LONGEST_PERIOD
  pub deadline_fits : b.deadline < DEADLINE_END
