use Rattle.std.proofs.Common.{ℕ, zero, suc, ◌+◌, ◌-◌, ◌*◌, ◌/◌, ◌%◌, ◌≡◌, ◌≤◌, ◌<◌, inl, inr, List, [], ◌∷◌}
use Rattle.std.proofs.Common.{◌++◌, refl, sym, ap, subst, arith}
use Rattle.std.proofs.lemmas.Nat.{div-mul-add, mod-mul-add}
use Rattle.cbs_account.specs.Balance.{Balance}
use Rattle.cbs_account.specs.Rules.{OwnEvent, UnitOfWork, Idle, recharged, after_unit, after, after_all, cbs}
use Rattle.cbs_account.specs.Laws.{unit_count, NoneRecharges}
use Rattle.cbs_account.proofs.Steps.{spent, after_unit-cases, after_idle-keeping, after_idle-cases}

-- a past that is a later one after an earlier one
pub after_all-append : (b : Balance) (later earlier : List OwnEvent)
    → after_all b (later ++ earlier) ≡ after_all (after_all b earlier) later
after_all-append b [] earlier = refl
after_all-append b (event ∷ later) earlier = ap (λ (a : Balance). after a event) (after_all-append b later earlier)

-- what each balance of a server keeps
pub record IsBalanceOf (q t : ℕ) (b : Balance) : Type 0 where
  pub maximum : b.maximum ≡ q
  pub period : b.period ≡ t
  pub positive : 1 ≤ b.budget
  pub within : b.budget ≤ q

pub recharged-sound : (q t r : ℕ) (b : Balance) → 1 ≤ q → IsBalanceOf q t b → IsBalanceOf q t (recharged r b)
recharged-sound q t r b some sound = record { maximum = sound.maximum; period = sound.period; positive = omega arith; within = omega arith }

pub spent-sound : (q t : ℕ) (b : Balance) → 2 ≤ b.budget → IsBalanceOf q t b → IsBalanceOf q t (spent b)
spent-sound q t b more sound = record { maximum = sound.maximum; period = sound.period; positive = omega arith; within = omega arith }

pub after-sound : (q t : ℕ) (b : Balance) (event : OwnEvent) → 1 ≤ q → IsBalanceOf q t b → IsBalanceOf q t (after b event)
after-sound q t b UnitOfWork some sound =
    elim (after_unit-cases b sound.positive) [
      | inl last ↦ subst (IsBalanceOf q t) (sym last.1) (recharged-sound q t b.deadline b some sound)
      | inr more ↦ subst (IsBalanceOf q t) (sym more.1) (spent-sound q t b more.0 sound)
    ]
after-sound q t b (Idle r) some sound =
    elim (after_idle-cases r b) [
      | inl recharging ↦ subst (IsBalanceOf q t) (sym recharging.1) (recharged-sound q t r b some sound)
      | inr keeping ↦ subst (IsBalanceOf q t) (sym keeping.1) sound
    ]

pub cbs-sound : (q t : ℕ) (past : List OwnEvent) → 1 ≤ q → IsBalanceOf q t (cbs q t past)
cbs-sound q t [] some = record { maximum = refl; period = refl; positive = some; within = omega arith }
cbs-sound q t (event ∷ past) some = after-sound q t (cbs q t past) event some (cbs-sound q t past some)

-- from a, n units that recharged m times, and arrivals that didn't, lead to b
pub record Charged (n m : ℕ) (a b : Balance) : Type 0 where
  pub maximum : b.maximum ≡ a.maximum
  pub period : b.period ≡ a.period
  pub deadline : b.deadline ≡ a.deadline + m * a.period
  pub units : n + b.budget ≡ a.budget + m * a.maximum
  pub positive : 1 ≤ b.budget
  pub within : b.budget ≤ a.maximum

pub charged-recharged : (n m : ℕ) (a b : Balance) → 1 ≤ a.maximum → b.budget ≡ 1 → Charged n m a b
    → Charged (n + 1) (m + 1) a (recharged b.deadline b)
charged-recharged n m a b some last run = record {
  maximum = run.maximum;
  period = run.period;
  deadline = grind arith;
  units = grind arith;
  positive = omega arith;
  within = omega arith;
}

pub charged-spent : (n m : ℕ) (a b : Balance) → 2 ≤ b.budget → Charged n m a b → Charged (n + 1) m a (spent b)
charged-spent n m a b more run = record {
  maximum = run.maximum;
  period = run.period;
  deadline = run.deadline;
  units = omega arith;
  positive = omega arith;
  within = omega arith;
}

pub charged-unit : (n m : ℕ) (a b : Balance) → 1 ≤ a.maximum → Charged n m a b → (k : ℕ) × Charged (n + 1) k a (after_unit b)
charged-unit n m a b some run =
    elim (after_unit-cases b run.positive) [
      | inl last ↦ (m + 1, subst (Charged (n + 1) (m + 1) a) (sym last.1) (charged-recharged n m a b some last.0 run))
      | inr more ↦ (m, subst (Charged (n + 1) m a) (sym more.1) (charged-spent n m a b more.0 run))
    ]

-- a past in which no arrival recharges
pub charged : (a : Balance) (past : List OwnEvent) → 1 ≤ a.budget → a.budget ≤ a.maximum → NoneRecharges a past
    → (m : ℕ) × Charged (unit_count past) m a (after_all a past)
charged a [] positive within none =
    (0, record { maximum = refl; period = refl; deadline = omega arith; units = omega arith; positive = positive; within = within })
charged a (UnitOfWork ∷ past) positive within none =
    let run = charged a past positive within none in
    charged-unit (unit_count past) run.0 a (after_all a past) (omega arith) run.1
charged a (Idle r ∷ past) positive within none =
    let run = charged a past positive within none.1 in
    (run.0, subst (Charged (unit_count past) run.0 a) (sym (after_idle-keeping r (after_all a past) none.0)) run.1)

-- from the whole budget on, n units
pub from_whole : (n m : ℕ) (a b : Balance) → a.budget ≡ a.maximum → Charged n m a b
    → (b.budget ≡ a.maximum - n % a.maximum) × (b.deadline ≡ a.deadline + a.period * (n / a.maximum))
from_whole n m a b whole run =
    let over : n ≡ m * a.maximum + (a.maximum - b.budget) = grind arith in
    let small : a.maximum - b.budget < a.maximum = omega arith in
    let quotient : n / a.maximum ≡ m = rw over (div-mul-add m a.maximum (a.maximum - b.budget) small) in
    let rest : n % a.maximum ≡ a.maximum - b.budget = rw over (mod-mul-add m a.maximum (a.maximum - b.budget) small) in
    (omega arith, grind arith)

-- from any budget on, n units that use it up
pub from_part : (n m : ℕ) (a b : Balance) → 1 ≤ a.budget → a.budget ≤ n → Charged n m a b
    → (b.budget ≡ a.maximum - (n - a.budget) % a.maximum) × (b.deadline ≡ a.deadline + a.period * (1 + (n - a.budget) / a.maximum))
from_part n zero a b positive enough run = absurd (omega arith)
from_part n (suc m) a b positive enough run =
    let over : n - a.budget ≡ m * a.maximum + (a.maximum - b.budget) = grind arith in
    let small : a.maximum - b.budget < a.maximum = omega arith in
    let quotient : (n - a.budget) / a.maximum ≡ m = rw over (div-mul-add m a.maximum (a.maximum - b.budget) small) in
    let rest : (n - a.budget) % a.maximum ≡ a.maximum - b.budget = rw over (mod-mul-add m a.maximum (a.maximum - b.budget) small) in
    (omega arith, grind arith)

-- below the budget nothing is recharged
pub none_recharged : (n m : ℕ) (a b : Balance) → n < a.budget → Charged n m a b → m ≡ 0
none_recharged n zero a b below run = refl
none_recharged n (suc m) a b below run = absurd (let e : n + b.budget ≡ a.budget + (m * a.maximum + a.maximum) = grind arith in omega arith)
