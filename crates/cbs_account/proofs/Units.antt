use Rattle.std.proofs.Common.{ℕ, zero, suc, ◌+◌, ◌-◌, ◌*◌, ◌/◌, ◌%◌, ◌≡◌, ◌≤◌, ◌<◌, refl, subst, arith, le_refl, zero-add, suc-add}
use Rattle.std.specs.Prelude.{replicate}
use Rattle.std.proofs.lemmas.Bool.Decides.{nat_tests}
use Rattle.cbs_account.specs.Balance.{Balance}
use Rattle.cbs_account.specs.Rules.{UnitOfWork, after_unit, after_units}
use Rattle.cbs_account.specs.Laws.{unit_count, NoneRecharges}
use Rattle.cbs_account.proofs.Steps.{same_balance}
use Rattle.cbs_account.proofs.Runs.{Charged, charged, from_part, none_recharged}

pub unit_count-replicate : (k : ℕ) → unit_count (replicate k UnitOfWork) ≡ k
unit_count-replicate zero = refl
unit_count-replicate (suc k) = omega (arith, unit_count-replicate k)

pub NoneRecharges-replicate : (k : ℕ) (b : Balance) → NoneRecharges b (replicate k UnitOfWork)
NoneRecharges-replicate zero b = tt
NoneRecharges-replicate (suc k) b = NoneRecharges-replicate k b

pub charged_units : (k : ℕ) (b : Balance) → 1 ≤ b.budget → b.budget ≤ b.maximum → (m : ℕ) × Charged k m b (after_units k b)
charged_units k b positive within =
    let run = charged b (replicate k UnitOfWork) positive within (NoneRecharges-replicate k b) in
    (run.0, subst (λ (n : ℕ). Charged n run.0 b (after_units k b)) (unit_count-replicate k) run.1)

-- fewer units than the budget has
abbrev pub lowered : ℕ → Balance → Balance
lowered k b = record { maximum = b.maximum; period = b.period; budget = b.budget - k; deadline = b.deadline }

pub after_units-below : (k : ℕ) (b : Balance) → 1 ≤ b.budget → b.budget ≤ b.maximum → k < b.budget → after_units k b ≡ lowered k b
after_units-below k b positive within below =
    let run = charged_units k b positive within in
    let none : run.0 ≡ 0 = none_recharged k run.0 b (after_units k b) below run.1 in
    let kept : Charged k 0 b (after_units k b) = subst (λ (m : ℕ). Charged k m b (after_units k b)) none run.1 in
    same_balance (after_units k b) (lowered k b) kept.maximum kept.period (omega arith) (omega arith)

-- as many units as the budget has, or more
abbrev pub divided : ℕ → Balance → Balance
divided k b = record {
  maximum = b.maximum;
  period = b.period;
  budget = b.maximum - (k - b.budget) % b.maximum;
  deadline = b.deadline + b.period * (1 + (k - b.budget) / b.maximum);
}

pub after_units-from : (k : ℕ) (b : Balance) → 1 ≤ b.budget → b.budget ≤ b.maximum → b.budget ≤ k → after_units k b ≡ divided k b
after_units-from k b positive within enough =
    let run = charged_units k b positive within in
    let ends = from_part k run.0 b (after_units k b) positive enough run.1 in
    same_balance (after_units k b) (divided k b) run.1.maximum run.1.period ends.0 ends.1

-- a unit never moves the deadline back
pub deadline_rises : (b : Balance) → b.deadline ≤ (after_unit b).deadline
deadline_rises b = grind (arith, nat_tests)

pub deadline_rises_by : (k i : ℕ) (b : Balance) → (after_units i b).deadline ≤ (after_units (k + i) b).deadline
deadline_rises_by zero i b = rw zero-add (le_refl _)
deadline_rises_by (suc k) i b = rw suc-add (omega (arith, deadline_rises_by k i b, deadline_rises (after_units (k + i) b)))

pub deadline_rises_to : (i k : ℕ) (b : Balance) → i ≤ k → (after_units i b).deadline ≤ (after_units k b).deadline
deadline_rises_to i k b le = let e : (k - i) + i ≡ k = omega arith in
    subst (λ (n : ℕ). (after_units i b).deadline ≤ (after_units n b).deadline) e (deadline_rises_by (k - i) i b)
