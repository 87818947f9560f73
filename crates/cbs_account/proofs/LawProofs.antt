use Rattle.std.proofs.Common.{ℕ, ◌+◌, ◌-◌, ◌*◌, ◌/◌, ◌%◌, ◌≡◌, ◌≤◌, inl, inr, List, [], ◌∷◌, ◌++◌, refl, sym, subst, arith}
use Rattle.std.proofs.Math.Nat.{div-le_self}
use Rattle.cbs_account.specs.Balance.{Balance}
use Rattle.cbs_account.specs.Rules.{OwnEvent, UnitOfWork, Idle, recharged, after_unit, after_idle, after_all, cbs}
use Rattle.cbs_account.specs.Laws.{unit_count, NoneRecharges, ClosedForm, Bandwidth, DeadlineBound}
use Rattle.cbs_account.proofs.Steps.{after_unit-cases, after_idle-recharging, after_idle-cases}
use Rattle.cbs_account.proofs.Runs.{IsBalanceOf, cbs-sound, after_all-append, charged, from_whole}

-- the two numbers of the closed form
abbrev pub IsClosedForm : ℕ → ℕ → ℕ → ℕ → Balance → Type 0
IsClosedForm q t r n b = (b.budget ≡ q - n % q) × (b.deadline ≡ r + t * (1 + n / q))

pub since_recharge : (q t r : ℕ) (later : List OwnEvent) (b : Balance) → 1 ≤ q → IsBalanceOf q t b
    → NoneRecharges (recharged r b) later → IsClosedForm q t r (unit_count later) (after_all (recharged r b) later)
since_recharge q t r later b some sound none =
    let run = charged (recharged r b) later (omega arith) (omega arith) none in
    let ends = from_whole (unit_count later) run.0 (recharged r b) (after_all (recharged r b) later) refl run.1 in
    rw (← sound.maximum, ← sound.period) (ends.0, grind arith)

pub closed_form_proof : ClosedForm
closed_form_proof q t r later earlier some recharging none =
    let sound = cbs-sound q t earlier some in
    let e = after_idle-recharging r (cbs q t earlier) recharging in
    rw after_all-append (rw e (since_recharge q t r later (cbs q t earlier) some sound (rw e at none)))

-- n units since an arrival at r, and the budget that is left, stay within the bandwidth
abbrev pub IsBounded : ℕ → ℕ → ℕ → ℕ → Balance → Type 0
IsBounded q t r n b = (n + b.budget) * t + r * q ≤ b.deadline * q

pub bounded-recharged-unit : (q t r n d : ℕ) → (n + 1) * t + r * q ≤ d * q → ((n + 1) + q) * t + r * q ≤ (d + t) * q
bounded-recharged-unit q t r n d h = grind arith

pub bounded-recharged-idle : (q t r n c d s : ℕ) → d * q ≤ c * t + s * q → (n + c) * t + r * q ≤ d * q → (n + q) * t + r * q ≤ (s + t) * q
bounded-recharged-idle q t r n c d s recharging h = grind arith

pub bounded-unit : (q t r n : ℕ) (b : Balance) → IsBalanceOf q t b → IsBounded q t r n b → IsBounded q t r (n + 1) (after_unit b)
bounded-unit q t r n b sound h =
    elim (after_unit-cases b sound.positive) [
      | inl last ↦ subst (IsBounded q t r (n + 1)) (sym last.1)
          (rw (sound.maximum, sound.period) (bounded-recharged-unit q t r n b.deadline (rw last.0 at h)))
      | inr more ↦ subst (IsBounded q t r (n + 1)) (sym more.1) (let e : (n + 1) + (b.budget - 1) ≡ n + b.budget = omega arith in rw e h)
    ]

pub bounded-idle : (q t r n s : ℕ) (b : Balance) → IsBalanceOf q t b → IsBounded q t r n b → IsBounded q t r n (after_idle s b)
bounded-idle q t r n s b sound h =
    elim (after_idle-cases s b) [
      | inl recharging ↦ subst (IsBounded q t r n) (sym recharging.1)
          (rw (sound.maximum, sound.period)
          (bounded-recharged-idle q t r n b.budget b.deadline s (rw (sound.maximum, sound.period) at recharging.0) h))
      | inr keeping ↦ subst (IsBounded q t r n) (sym keeping.1) h
    ]

pub bounded-arrival : (q t r : ℕ) (b : Balance) → IsBalanceOf q t b → IsBounded q t r 0 (after_idle r b)
bounded-arrival q t r b sound =
    elim (after_idle-cases r b) [
      | inl recharging ↦ subst (IsBounded q t r 0) (sym recharging.1) (rw (sound.maximum, sound.period) (grind arith))
      | inr keeping ↦ subst (IsBounded q t r 0) (sym keeping.1) (let less = rw (sound.maximum, sound.period) at keeping.0 in omega arith)
    ]

pub bandwidth_proof : Bandwidth
bandwidth_proof q t r [] earlier some = bounded-arrival q t r (cbs q t earlier) (cbs-sound q t earlier some)
bandwidth_proof q t r (UnitOfWork ∷ later) earlier some =
    let past = later ++ Idle r ∷ earlier in
    bounded-unit q t r (unit_count later) (cbs q t past) (cbs-sound q t past some) (bandwidth_proof q t r later earlier some)
bandwidth_proof q t r (Idle s ∷ later) earlier some =
    let past = later ++ Idle r ∷ earlier in
    bounded-idle q t r (unit_count later) s (cbs q t past) (cbs-sound q t past some) (bandwidth_proof q t r later earlier some)

-- the rounds of the budget are no more than the units
pub rounds_bounded : (q t r n : ℕ) → r + t * (1 + n / q) ≤ r + t * (1 + n)
rounds_bounded q t r n = let e : n / q ≤ n = div-le_self n q in grind arith

pub deadline_bound_proof : DeadlineBound
deadline_bound_proof q t r later earlier some recharging none =
    let form = closed_form_proof q t r later earlier some recharging none in
    rw form.1 (rounds_bounded q t r (unit_count later))
