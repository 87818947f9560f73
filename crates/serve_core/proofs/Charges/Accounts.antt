-- What an account keeps.
use Rattle.std.proofs.Common.{ℕ, zero, suc, ◌+◌, ◌-◌, ◌*◌, ◌≡◌, ◌≤◌, ◌<◌, ◌⊎◌, inl, inr, refl, sym, subst}
use Rattle.std.proofs.Common.{arith}
use Rattle.std.proofs.lemmas.Bool.Decides.{nat_tests}
use Rattle.cbs_account.specs.Balance.{Balance, opened}
use Rattle.cbs_account.specs.Rules.{after_unit, after_units, after_idle, recharged}
use Rattle.serve_core.specs.Setup.{HasBandwidth, StreamSpec}
use Rattle.serve_core.specs.Sound.{IsPaid}

abbrev pub renewed : Balance → Balance
renewed b = record {
  maximum = b.maximum;
  period = b.period;
  budget = b.maximum;
  deadline = b.deadline + b.period;
}

abbrev pub spent : Balance → Balance
spent b = record { maximum = b.maximum; period = b.period; budget = b.budget - 1; deadline = b.deadline }

pub used_cases : (b : Balance) → 1 ≤ b.budget
    → ((b.budget ≡ 1) × (after_unit b ≡ renewed b)) ⊎ ((2 ≤ b.budget) × (after_unit b ≡ spent b))
used_cases b h = grind (arith, nat_tests)

pub arrived_cases : (r : ℕ) (a : Balance) → ((after_idle r a ≡ recharged r a)
    × (a.deadline * a.maximum ≤ a.budget * a.period + r * a.maximum))
    ⊎ ((after_idle r a ≡ a) × (a.budget * a.period + r * a.maximum < a.deadline * a.maximum))
arrived_cases r a = grind (arith, nat_tests)

pub paid_opened : (spec : StreamSpec) → HasBandwidth spec
    → IsPaid spec 0 0 0 (opened spec.maximum spec.period)
paid_opened spec v = record {
  maximum = refl;
  period = refl;
  some = v.0;
  most = omega arith;
  first = λ _. refl;
  soon = omega arith;
  paid = λ l. absurd (omega arith);
}

pub paid_later : (spec : StreamSpec) (t u n c : ℕ) (a : Balance) → t ≤ u → IsPaid spec t n c a
    → IsPaid spec u n c a
paid_later spec t u n c a l h =
    record {
      maximum = h.maximum;
      period = h.period;
      some = h.some;
      most = h.most;
      first = h.first;
      soon = omega (arith, h.soon);
      paid = h.paid;
    }

renewed_paid : (c b q t d : ℕ) → b ≡ 1 → (c + b) * t ≤ d * q → (c + 1 + q) * t ≤ (d + t) * q
renewed_paid c b q t d one p = grind (arith, one, p)

paid_renewed : (spec : StreamSpec) (t n c : ℕ) (a : Balance) → HasBandwidth spec → 1 ≤ n → a.budget ≡ 1
    → IsPaid spec t n c a → IsPaid spec t n (c + 1) (renewed a)
paid_renewed spec t n c a v l one h =
    let p = h.paid l in
    record {
      maximum = h.maximum;
      period = h.period;
      some = omega (arith, v.0);
      most = omega (arith, h.maximum);
      first = λ z. absurd (omega arith);
      soon = grind (arith, h.soon, h.period);
      paid = λ _. rw (h.maximum, h.period)
          (renewed_paid c a.budget spec.maximum spec.period a.deadline one p);
    }

paid_spent : (spec : StreamSpec) (t n c : ℕ) (a : Balance) → 1 ≤ n → 2 ≤ a.budget → IsPaid spec t n c a
    → IsPaid spec t n (c + 1) (spent a)
paid_spent spec t n c a l two h =
    let p = h.paid l in
    let same : c + 1 + (a.budget - 1) ≡ c + a.budget = omega arith in
    record {
      maximum = h.maximum;
      period = h.period;
      some = omega arith;
      most = omega (arith, h.most);
      first = λ z. absurd (omega arith);
      soon = grind (arith, h.soon);
      paid = λ _. rw same p;
    }

pub paid_used : (spec : StreamSpec) (t n c : ℕ) (a : Balance) → HasBandwidth spec → 1 ≤ n
    → IsPaid spec t n c a → IsPaid spec t n (c + 1) (after_unit a)
paid_used spec t n c a v l h =
    elim (used_cases a h.some) [
      | inl p ↦ subst (IsPaid spec t n (c + 1)) (sym p.1) (paid_renewed spec t n c a v l p.0 h)
      | inr p ↦ subst (IsPaid spec t n (c + 1)) (sym p.1) (paid_spent spec t n c a l p.0 h)
    ]

pub units_paid : (spec : StreamSpec) (t n c k : ℕ) (a : Balance) → HasBandwidth spec → 1 ≤ n
    → IsPaid spec t n c a → IsPaid spec t n (c + k) (after_units k a)
units_paid spec t n c zero a v l h =
    subst (λ (m : ℕ). IsPaid spec t n m a) (let e : c ≡ c + 0 = omega arith in e) h
units_paid spec t n c (suc k) a v l h =
    subst (λ (m : ℕ). IsPaid spec t n m (after_unit (after_units k a)))
    (let e : c + k + 1 ≡ c + suc k = omega arith in e)
    (paid_used spec t n (c + k) (after_units k a) v l (units_paid spec t n c k a v l h))

pub paid_kept : (spec : StreamSpec) (t n c : ℕ) (a : Balance) → 1 ≤ n → IsPaid spec t n c a
    → IsPaid spec t (n + 1) c a
paid_kept spec t n c a l h =
    record {
      maximum = h.maximum;
      period = h.period;
      some = h.some;
      most = h.most;
      first = λ z. absurd (omega arith);
      soon = h.soon;
      paid = λ _. h.paid l;
    }

pub zero_or : (n : ℕ) → (n ≡ 0) ⊎ (1 ≤ n)
zero_or n = grind arith

-- a recharge where the moment is late enough
paid_before : (n c q t d b r : ℕ) → (n ≡ 0 → c ≡ 0) → (1 ≤ n → (c + b) * t ≤ d * q) → d * q ≤ b * t + r * q
    → c * t ≤ r * q
paid_before n c q t d b r z p l =
    elim (zero_or n) [
      | inl e ↦ let none : c ≡ 0 = z e in rw none (omega arith)
      | inr m ↦ let k = p m in grind (arith, k)
    ]

paid_recharged : (spec : StreamSpec) (t n c : ℕ) (a : Balance) → HasBandwidth spec → (n ≡ 0 → c ≡ 0)
    → a.deadline * a.maximum ≤ a.budget * a.period + t * a.maximum → IsPaid spec t n c a
    → IsPaid spec t (n + 1) c (recharged t a)
paid_recharged spec t n c a v z l h =
    let m : a.deadline * spec.maximum ≤ a.budget * spec.period + t * spec.maximum =
    rw (← h.maximum, ← h.period) l in
    let k : c * spec.period ≤ t * spec.maximum =
    paid_before n c spec.maximum spec.period a.deadline a.budget t z h.paid m in
    record {
      maximum = h.maximum;
      period = h.period;
      some = omega (arith, v.0, h.maximum);
      most = omega (arith, h.maximum);
      first = λ z. absurd (omega arith);
      soon = grind (arith, h.period);
      paid = λ _. rw (h.maximum, h.period) (grind (arith, k));
    }

paid_not_recharged : (spec : StreamSpec) (t n c : ℕ) (a : Balance)
    → a.budget * a.period + t * a.maximum < a.deadline * a.maximum → IsPaid spec t n c a
    → IsPaid spec t (n + 1) c a
paid_not_recharged spec t n c a l h =
    elim (zero_or n) [
      | inl e ↦ absurd (let z : a.deadline ≡ 0 = h.first e in
          let no : a.budget * a.period + t * a.maximum < 0 * a.maximum = rw z at l in omega (arith, no))
      | inr m ↦ paid_kept spec t n c a m h
    ]

pub paid_arrived : (spec : StreamSpec) (t n c : ℕ) (a : Balance) → HasBandwidth spec → (n ≡ 0 → c ≡ 0)
    → IsPaid spec t n c a → IsPaid spec t (n + 1) c (after_idle t a)
paid_arrived spec t n c a v z h =
    elim (arrived_cases t a) [
      | inl p ↦ subst (IsPaid spec t (n + 1) c) (sym p.0) (paid_recharged spec t n c a v z p.1 h)
      | inr p ↦ subst (IsPaid spec t (n + 1) c) (sym p.0) (paid_not_recharged spec t n c a p.1 h)
    ]
