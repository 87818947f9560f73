-- What was charged of a stream since a moment is within its bandwidth.
use Rattle.std.proofs.Common.{ℕ, zero, suc, ◌+◌, ◌-◌, ◌*◌, ◌≡◌, ◌≤◌, ◌<◌, inl, inr, sym, subst, arith}
use Rattle.std.proofs.Common.{Option, Some, None, le_refl, le_of_mul-le-mul_right, mul-le-mul_right}
use Rattle.cbs_account.specs.Admission.{share}
use Rattle.cbs_account.specs.Balance.{Balance}
use Rattle.cbs_account.specs.Rules.{after_idle, after_unit, after_units}
use Rattle.serve_core.specs.Counts.{Back, Came, Deed, Ended, Lent, Shut, Taken, Worked}
use Rattle.serve_core.specs.Setup.{HasBandwidth, StreamSpec}
use Rattle.serve_core.specs.Sound.{IsPaid, IsSound}
use Rattle.serve_core.specs.States.{StreamState, did_any, next_cost}
use Rattle.serve_core.proofs.Charges.Accounts.{arrived_cases, units_paid, used_cases, zero_or}
use Rattle.serve_core.proofs.Charges.Demands.{charge_covered, none_charged, share_covers}
use Rattle.serve_core.proofs.Events.Streams.{CanAny, same_or}

-- c units since the moment a, with the budget that is left, are no more than the bandwidth's part of the time
-- from there up to the deadline
abbrev pub IsPaidSince : ℕ → ℕ → Balance → Type 0
IsPaidSince a c b = (c + b.budget) * b.period + a * b.maximum ≤ b.deadline * b.maximum

renewed_since : (a c b q t d : ℕ) → b ≡ 1 → (c + b) * t + a * q ≤ d * q
    → (c + 1 + q) * t + a * q ≤ (d + t) * q
renewed_since a c b q t d one p = grind (arith, one, p)

used_since : (a c : ℕ) (b : Balance) → 1 ≤ b.budget → IsPaidSince a c b → IsPaidSince a (c + 1) (after_unit b)
used_since a c b some h =
    elim (used_cases b some) [
      | inl p ↦ subst (IsPaidSince a (c + 1)) (sym p.1)
          (renewed_since a c b.budget b.maximum b.period b.deadline p.0 h)
      | inr p ↦ subst (IsPaidSince a (c + 1)) (sym p.1)
          (let same : c + 1 + (b.budget - 1) ≡ c + b.budget = omega (arith, p.0) in rw same h)
    ]

units_since : (spec : StreamSpec) (t n a c k : ℕ) (b : Balance) → HasBandwidth spec → 1 ≤ n
    → IsPaid spec t n c b → IsPaidSince a c b → IsPaidSince a (c + k) (after_units k b)
units_since spec t n a c zero b v l i h =
    subst (λ (m : ℕ). IsPaidSince a m b) (let e : c ≡ c + 0 = omega arith in e) h
units_since spec t n a c (suc k) b v l i h =
    subst (λ (m : ℕ). IsPaidSince a m (after_unit (after_units k b)))
    (let e : c + k + 1 ≡ c + suc k = omega arith in e)
    (used_since a (c + k) (after_units k b) (units_paid spec t n c k b v l i).some
    (units_since spec t n a c k b v l i h))

recharged_since : (a c b q t d r : ℕ) → d * q ≤ b * t + r * q → (c + b) * t + a * q ≤ d * q
    → (c + q) * t + a * q ≤ (r + t) * q
recharged_since a c b q t d r l p = omega (arith, l, p)

arrived_since : (a c r : ℕ) (b : Balance) → IsPaidSince a c b → IsPaidSince a c (after_idle r b)
arrived_since a c r b h =
    elim (arrived_cases r b) [
      | inl p ↦ subst (IsPaidSince a c) (sym p.0)
          (recharged_since a c b.budget b.maximum b.period b.deadline r p.1 h)
      | inr p ↦ subst (IsPaidSince a c) (sym p.0) h
    ]

opened_since : (a q t r : ℕ) → a * q ≤ r * q → (0 + q) * t + a * q ≤ (r + t) * q
opened_since a q t r l = omega (arith, l)

-- the first arrival recharges
first_since : (a r : ℕ) (b : Balance) → a ≤ r → b.deadline ≡ 0 → IsPaidSince a 0 (after_idle r b)
first_since a r b l z =
    elim (arrived_cases r b) [
      | inl p ↦ subst (IsPaidSince a 0) (sym p.0)
          (opened_since a b.maximum b.period r (mul-le-mul_right b.maximum l))
      | inr p ↦ absurd (
          let no : b.budget * b.period + r * b.maximum < 0 * b.maximum = rw z at p.1 in omega (arith, no))
    ]

pub spread : (k a d q : ℕ) → k + a ≡ d → k * q + a * q ≡ d * q
spread k a d q e = rw (← e) (omega arith)

-- a charge that is within its bandwidth from the moment a on
covered_from : (c b a d t q m : ℕ) → 1 ≤ t → 1 ≤ q → (c + b) * t + a * q ≤ d * q → q * 1000000 ≤ m * t
    → c * 1000000 ≤ (d - a) * m
covered_from c b a d t q m some one h covers =
    let fits : a * q ≤ d * q = omega (arith, h) in
    let before : a ≤ d = le_of_mul-le-mul_right fits one in
    let parts : (d - a) + a ≡ d = omega (arith, before) in
    let whole : (d - a) * q + a * q ≡ d * q = spread (d - a) a d q parts in
    let used : c * t ≤ (d - a) * q = omega (arith, whole, h) in
    charge_covered c t q (d - a) (d - a) m some used (le_refl (d - a)) covers

module _ {F : Type 0} where
  -- once a frame was accepted
  abbrev pub IsStreamPaid : ℕ → StreamState F → Type 0
  IsStreamPaid a x = 1 ≤ x.accepted → IsPaidSince a x.charged x.account

  came_since : (a t : ℕ) (x : StreamState F) → a ≤ t → IsSound t x → IsStreamPaid a x
      → IsPaidSince a x.charged (after_idle t x.account)
  came_since a t x l h p =
      elim (zero_or x.accepted) [
        | inl z ↦
            subst (λ (c : ℕ). IsPaidSince a c (after_idle t x.account)) (sym (none_charged t x h z))
            (first_since a t x.account l (h.account.first z))
        | inr some ↦ arrived_since a x.charged t x.account (p some)
      ]

  pub did_since : (a t : ℕ) (x : StreamState F) (o : Option (Deed F)) → a ≤ t → IsSound t x → CanAny t x o
      → IsStreamPaid a x → IsStreamPaid a (did_any x o)
  did_since a t x None l h c p = p
  did_since a t x (Some (Came r f)) l h c p =
      elim (same_or x.accepted x.finished) [
        | inl e ↦ rw e.1
            (λ some. subst (λ (m : ℕ). IsPaidSince a x.charged (after_idle m x.account)) (sym c.0)
            (came_since a t x l h p))
        | inr e ↦ rw e.1 (λ some. p (omega (arith, h.finished, e.0)))
      ]
  did_since a t x (Some Worked) l h c p =
      λ some. units_since x.spec t x.accepted a x.charged (next_cost x) x.account h.bandwidth some h.account
      (p some)
  did_since a t x (Some (Lent w)) l h c p = p
  did_since a t x (Some Back) l h c p = p
  did_since a t x (Some Ended) l h c p = p
  did_since a t x (Some Shut) l h c p = p
  did_since a t x (Some Taken) l h c p = p

  -- so its share of the time since then covers it
  pub charged_since : (a t : ℕ) (x : StreamState F) → IsSound t x → IsStreamPaid a x
      → x.charged * 1000000 ≤ (x.account.deadline - a) * share x.spec.maximum x.spec.period
  charged_since a t x h p =
      elim (zero_or x.accepted) [
        | inl z ↦ let none = none_charged t x h z in rw none (omega arith)
        | inr l ↦
            let some : 1 ≤ x.spec.period = omega (arith, h.bandwidth.0, h.bandwidth.1) in
            let paid : (x.charged + x.account.budget) * x.spec.period + a * x.spec.maximum
            ≤ x.account.deadline * x.spec.maximum = rw (h.account.maximum, h.account.period) at (p l) in
            covered_from x.charged x.account.budget a x.account.deadline x.spec.period x.spec.maximum
            (share x.spec.maximum x.spec.period) some h.bandwidth.0 paid
            (share_covers x.spec.maximum x.spec.period some)
      ]
