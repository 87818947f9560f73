use Rattle.std.specs.Prelude.{ℕ, ◌+◌, ◌-◌, ◌*◌, ◌/◌, ◌%◌, ◌^◌, ◌≡◌, ◌≤◌, IsTrue, IsFalse}
use Rattle.std.specs.Prelude.{List, [], ◌∷◌, ◌++◌, All, sum_by}
use Rattle.cbs_account.specs.declared.limits.TheConstants.{LAST_MOMENT, LONGEST_PERIOD, MOST_UNITS_IN_ALL}
use Rattle.cbs_account.specs.Balance.{Balance}
use Rattle.cbs_account.specs.Rules.{OwnEvent, UnitOfWork, Idle, CanCharge, is_recharging, after_all, cbs}
use Rattle.cbs_account.specs.Admission.{Reservation, Fits, load_of}

-- the number of units among the events
abbrev pub unit_count : List OwnEvent → ℕ
unit_count [] = 0
unit_count (UnitOfWork ∷ past) = unit_count past + 1
unit_count (Idle r ∷ past) = unit_count past

-- among these events, which began at b, no idle arrival recharges when it comes
abbrev pub NoneRecharges : Balance → List OwnEvent → Type 0
NoneRecharges b [] = Unit {0}
NoneRecharges b (UnitOfWork ∷ past) = NoneRecharges b past
NoneRecharges b (Idle r ∷ past) = IsFalse (is_recharging r (after_all b past)) × NoneRecharges b past

-- budget and deadline where the last arrival that recharged came at r, with n units since
abbrev pub ClosedForm : Type 0
ClosedForm =
    (q t r : ℕ) (later earlier : List OwnEvent) → 1 ≤ q
    → IsTrue (is_recharging r (cbs q t earlier))
    → NoneRecharges (cbs q t (Idle r ∷ earlier)) later
    → let n = unit_count later in
    let server = cbs q t (later ++ Idle r ∷ earlier) in
    (server.budget ≡ q - n % q) × (server.deadline ≡ r + t * (1 + n / q))

-- with n units since any idle arrival at r, recharging or not, (n + c) * T <= (d - r) * Q
abbrev pub Bandwidth : Type 0
Bandwidth =
    (q t r : ℕ) (later earlier : List OwnEvent) → 1 ≤ q
    → let n = unit_count later in
    let server = cbs q t (later ++ Idle r ∷ earlier) in
    (n + server.budget) * t + r * q ≤ server.deadline * q

-- no deadline is later than one period, and one more for each unit, after the last arrival that recharged
abbrev pub DeadlineBound : Type 0
DeadlineBound =
    (q t r : ℕ) (later earlier : List OwnEvent) → 1 ≤ q
    → IsTrue (is_recharging r (cbs q t earlier))
    → NoneRecharges (cbs q t (Idle r ∷ earlier)) later
    → (cbs q t (later ++ Idle r ∷ earlier)).deadline ≤ r + t * (1 + unit_count later)

-- no idle arrival among these events came after the moment m
abbrev pub NoneAfter : ℕ → List OwnEvent → Type 0
NoneAfter m [] = Unit {0}
NoneAfter m (UnitOfWork ∷ past) = NoneAfter m past
NoneAfter m (Idle r ∷ past) = (r ≤ m) × NoneAfter m past

-- where arrivals come up to the moment m, and n units were done in all, the deadline is at most
-- m + T * (1 + n)
abbrev pub DeadlineLimit : Type 0
DeadlineLimit =
    (q t m : ℕ) (past : List OwnEvent) → NoneAfter m past
    → (cbs q t past).deadline ≤ m + t * (1 + unit_count past)

-- k units can be charged where n units and arrivals up to the moment m left a deadline so near, and more of
-- both followed: if m is at most 2^60, no arrival came after it, and all units together are at most 2^39
abbrev pub ChargeLimit : Type 0
ChargeLimit =
    (m n k : ℕ) (later : List OwnEvent) (b : Balance) → m ≤ LAST_MOMENT → b.period ≤ LONGEST_PERIOD
    → b.deadline ≤ m + b.period * (1 + n)
    → NoneAfter m later
    → n + unit_count later + k ≤ MOST_UNITS_IN_ALL
    → CanCharge k (after_all b later)

-- servers that fit on their workers ask for no more time than these have: in a time m that each period
-- divides, the sum of Q * (m / T) is at most m for each worker
abbrev pub TotalBandwidth : Type 0
TotalBandwidth =
    (workers m : ℕ) (servers : List Reservation) → Fits (load_of workers servers)
    → All (λ s. m % s.period ≡ 0) servers
    → sum_by (λ s. s.maximum * (m / s.period)) servers ≤ workers * m
