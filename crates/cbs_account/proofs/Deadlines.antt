-- How far a server's deadline can be put off.
use Rattle.std.proofs.Common.{ℕ, zero, suc, ◌+◌, ◌*◌, ◌^◌, ◌≡◌, ◌≤◌, ◌<◌, ◌∙◌, List, [], ◌∷◌, replicate, refl}
use Rattle.std.proofs.Common.{subst, arith, zero-add, add_assoc, mul-le-mul_right}
use Rattle.std.proofs.lemmas.Bool.Decides.{nat_tests}
use Rattle.cbs_account.specs.declared.limits.TheConstants.{DEADLINE_END, LAST_MOMENT, LONGEST_PERIOD, MOST_UNITS_IN_ALL}
use Rattle.cbs_account.specs.Balance.{Balance, opened}
use Rattle.cbs_account.specs.Rules.{OwnEvent, UnitOfWork, Idle, after_unit, after_idle, after_all}
use Rattle.cbs_account.specs.Laws.{unit_count, DeadlineLimit, NoneAfter, ChargeLimit}
use Rattle.cbs_account.proofs.Units.{unit_count-replicate}

-- no event changes the period
after_unit-period : (b : Balance) → (after_unit b).period ≡ b.period
after_unit-period b = grind (arith, nat_tests)

after_idle-period : (r : ℕ) (b : Balance) → (after_idle r b).period ≡ b.period
after_idle-period r b = grind (arith, nat_tests)

after_all-period : (past : List OwnEvent) (b : Balance) → (after_all b past).period ≡ b.period
after_all-period [] b = refl
after_all-period (UnitOfWork ∷ past) b = after_unit-period (after_all b past) ∙ after_all-period past b
after_all-period (Idle r ∷ past) b = after_idle-period r (after_all b past) ∙ after_all-period past b

-- the deadline is at most one period, and one more for each of n units, after the moment m
abbrev IsLimited : ℕ → ℕ → Balance → Type 0
IsLimited m n b = b.deadline ≤ m + b.period * (1 + n)

limited-unit : (m n : ℕ) (b : Balance) → IsLimited m n b → IsLimited m (n + 1) (after_unit b)
limited-unit m n b h = grind (arith, nat_tests)

limited-idle : (m n r : ℕ) (b : Balance) → r ≤ m → IsLimited m n b → IsLimited m n (after_idle r b)
limited-idle m n r b within h = grind (arith, nat_tests)

limited : (m n : ℕ) (later : List OwnEvent) (b : Balance) → IsLimited m n b → NoneAfter m later
    → IsLimited m (n + unit_count later) (after_all b later)
limited m n [] b h none = omega arith
limited m n (UnitOfWork ∷ later) b h none =
    let one : IsLimited m (n + unit_count later + 1) (after_unit (after_all b later)) =
    limited-unit m (n + unit_count later) (after_all b later) (limited m n later b h none) in
    subst (λ (units : ℕ). IsLimited m units (after_unit (after_all b later))) (add_assoc n (unit_count later) 1) one
limited m n (Idle r ∷ later) b h none = limited-idle m (n + unit_count later) r (after_all b later) none.0 (limited m n later b h none.1)

pub deadline_limit_proof : DeadlineLimit
deadline_limit_proof q t m past none =
    rw (after_all-period past (opened q t), zero-add) at (limited m 0 past (opened q t) (omega arith) none)

NoneAfter-replicate : (k m : ℕ) → NoneAfter m (replicate k UnitOfWork)
NoneAfter-replicate zero m = tt
NoneAfter-replicate (suc k) m = NoneAfter-replicate k m

-- the last deadline that there can be
last_deadline : {d m p n : ℕ} → d ≤ m + p * (1 + n) → m ≤ LAST_MOMENT → p ≤ LONGEST_PERIOD → n ≤ MOST_UNITS_IN_ALL → d < DEADLINE_END
last_deadline {p = p} {n = n} limit clock period few =
    let most : p * (1 + n) ≤ LONGEST_PERIOD * (1 + n) = mul-le-mul_right (1 + n) period in
    omega (arith, limit, most)

pub charge_limit_proof : ChargeLimit
charge_limit_proof m n k later b clock period h none few =
    let server = after_all b later in
    let now = limited m n later b h none in
    let then = limited m (n + unit_count later) (replicate k UnitOfWork) server now (NoneAfter-replicate k m) in
    let same = after_all-period (replicate k UnitOfWork) server ∙ after_all-period later b in
    (omega (arith, few), last_deadline (rw (same, unit_count-replicate) at then) clock period few)
