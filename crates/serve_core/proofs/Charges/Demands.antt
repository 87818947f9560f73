-- Delay, demand, and what can be charged.
use Rattle.std.proofs.Common.{ℕ, zero, suc, ◌+◌, ◌*◌, ◌≡◌, ◌≤◌, ◌<◌, ◌⊎◌, inl, inr, Bool, true, false}
use Rattle.std.proofs.Common.{nat_le, not, if◌then◌else◌, refl, sym, ◌∙◌, ap, arith, List, [], ◌∷◌, ◌++◌, filter}
use Rattle.std.proofs.Common.{length, replicate, sum_by, Some, slice_get, le_trans, mul-le-mul_left}
use Rattle.std.proofs.Common.{mul-le-mul_right, le_of_mul-le-mul_right}
use Rattle.std.proofs.lemmas.List.{length-replicate}
use Rattle.std.proofs.lemmas.Bool.Decides.{nat_tests}
use Rattle.std.proofs.lemmas.Grind.{div_ceil_times}
use Rattle.std.proofs.lemmas.List.Sums.{sum_by-cons}
use Rattle.filters.specs.declared.limits.TheConstants.{MOST_COST}
use Rattle.cbs_account.specs.declared.limits.TheConstants.{DEADLINE_END, LAST_MOMENT, LONGEST_PERIOD}
use Rattle.cbs_account.specs.Admission.{share}
use Rattle.cbs_account.specs.Laws.{Bandwidth, unit_count}
use Rattle.cbs_account.specs.Rules.{CanCharge, Idle, OwnEvent, after_units, cbs}
use Rattle.y4m_header.specs.declared.limits.TheConstants.{MOST_FRAMES}
use Rattle.serve_core.specs.Counts.{held, own_events, specs}
use Rattle.serve_core.specs.Events.{Leased, Transcript}
use Rattle.serve_core.specs.Grants.{cost_of_first}
use Rattle.serve_core.specs.Laws.{DelayLaw, DemandLaw, demand}
use Rattle.serve_core.specs.Released.{held_share, is_released}
use Rattle.serve_core.specs.Rules.{AllowsLease}
use Rattle.serve_core.specs.Setup.{Setup, StreamSpec, cost, costs}
use Rattle.serve_core.specs.Sound.{IsSound}
use Rattle.serve_core.specs.States.{StreamState, past, state_of, stream_of}
use Rattle.serve_core.proofs.Charges.Accounts.{units_paid}
use Rattle.serve_core.proofs.Events.Kept.{sound}
use Rattle.serve_core.proofs.Events.Readiness.{earliest_due}
use Rattle.serve_core.proofs.Events.Releases.{fits_is}
use Rattle.serve_core.proofs.Events.Turns.{lease_inv}
use Rattle.serve_core.proofs.Items.Lists.{get_map_at, length_map_at}

-- rounding up covers
pub share_covers : (q t : ℕ) → 1 ≤ t → q * 1000000 ≤ share q t * t
share_covers q t l = (div_ceil_times (q * 1000000) t l).0

pub charge_covered : (c t q a d m : ℕ) → 1 ≤ t → c * t ≤ a * q → a ≤ d → q * 1000000 ≤ m * t → c * 1000000 ≤ d * m
charge_covered c t q a d m l h k j =
    let one : a * q ≤ d * q = mul-le-mul_right q k in
    let two : d * (q * 1000000) ≤ d * (m * t) = mul-le-mul_left d j in
    le_of_mul-le-mul_right (let e : (c * 1000000) * t ≤ (d * m) * t = omega (arith, h, one, two) in e) l

pub tested_le : (a d : ℕ) → nat_le a d ≡ true → a ≤ d
tested_le a d h = grind (arith, nat_tests)

-- what f finished frames of s units each cost and the units k behind d more, where there are at most m frames
pub few_units : (f n s d k m b : ℕ) → f < n → n ≤ m → d + k ≤ s → s ≤ b → f * s + d + k ≤ m * b
few_units f n s d k m b l o p q =
    let one : suc f * s ≤ m * s = mul-le-mul_right s (let e : suc f ≤ m = omega arith in e) in
    let two : m * s ≤ m * b = mul-le-mul_left m q in
    omega (arith, one, two)

-- the last deadline that there can be
last_deadline : (d t p c : ℕ) → d ≤ t + p * (1 + c) → t ≤ LAST_MOMENT → p ≤ LONGEST_PERIOD
    → c ≤ MOST_FRAMES * MOST_COST → d < DEADLINE_END
last_deadline d t p c h a b e =
    let one : p * (1 + c) ≤ LONGEST_PERIOD * (1 + c) = mul-le-mul_right (1 + c) b in
    omega (arith, h, one)

zero_or : (n : ℕ) → (n ≡ 0) ⊎ (1 ≤ n)
zero_or n = grind arith

module _ {F : Type 0} where
  pub none_charged : (t : ℕ) (x : StreamState F) → IsSound t x → x.accepted ≡ 0 → x.charged ≡ 0
  none_charged t x h z =
      let n : x.finished ≡ 0 = omega (arith, h.finished) in
      let d : x.done ≡ 0 = h.idle (n ∙ sym z) in
      h.charged ∙ rw (n, d) (omega arith)

  pub paid_always : (t : ℕ) (x : StreamState F) → IsSound t x
      → x.charged * x.spec.period ≤ x.account.deadline * x.spec.maximum
  paid_always t x h =
      elim (zero_or x.accepted) [
        | inl z ↦ let c = none_charged t x h z in rw c (omega arith)
        | inr l ↦ let p = h.account.paid l in omega (arith, p)
      ]

  pub demand_one : (d : ℕ) (b : Bool) (x : StreamState F) (xs : List (StreamState F))
      → nat_le x.account.deadline d ≡ b
      → demand d (x ∷ xs) ≡ (if b then x.charged else 0) + demand d xs
  demand_one d true x xs e =
      rw e (sum_by-cons (λ (y : StreamState F). y.charged) x (filter (λ y. nat_le y.account.deadline d) xs))
  demand_one d false x xs e = rw e (omega arith)

  -- what is due by d of one stream is covered by its share
  demand_more : (d m n : ℕ) (x : StreamState F) (xs : List (StreamState F)) (b : Bool)
      → nat_le x.account.deadline d ≡ b
      → (b ≡ true → x.charged * 1000000 ≤ d * m) → demand d xs * 1000000 ≤ d * n
      → demand d (x ∷ xs) * 1000000 ≤ d * (m + n)
  demand_more d m n x xs true e c r = let here = c refl in rw (demand_one d true x xs e) (omega (arith, here, r))
  demand_more d m n x xs false e c r = rw (demand_one d false x xs e) (omega (arith, r))

  abbrev kept_of : ℕ → List (StreamState F) → List (StreamState F)
  kept_of t xs = filter (λ x. not (is_released t x)) xs

  -- a stream that is released asks for nothing and holds nothing
  kept_more : (t d : ℕ) (x : StreamState F) (xs : List (StreamState F)) (b : Bool) → is_released t x ≡ b
      → demand d (x ∷ kept_of t xs) * 1000000 ≤ d * (share x.spec.maximum x.spec.period + sum_by (held_share t) xs)
      → demand d (kept_of t xs) * 1000000 ≤ d * sum_by (held_share t) xs
      → demand d (kept_of t (x ∷ xs)) * 1000000 ≤ d * (held_share t x + sum_by (held_share t) xs)
  kept_more t d x xs true e one rest = rw e (omega (arith, rest))
  kept_more t d x xs false e one rest = rw e one

  demand_within : (t d : ℕ) (xs : List (StreamState F))
      → ((s : ℕ) (x : StreamState F) → slice_get xs s ≡ Some x → IsSound t x)
      → demand d (kept_of t xs) * 1000000 ≤ d * sum_by (held_share t) xs
  demand_within t d [] h = omega arith
  demand_within t d (x ∷ xs) h =
      let rest = demand_within t d xs (λ s y k. h (suc s) y k) in
      let here = h zero x refl in
      let some : 1 ≤ x.spec.period = omega (arith, here.bandwidth.0, here.bandwidth.1) in
      let covers = share_covers x.spec.maximum x.spec.period some in
      let one = demand_more d (share x.spec.maximum x.spec.period) (sum_by (held_share t) xs) x (kept_of t xs)
      (nat_le x.account.deadline d) refl
      (λ a. charge_covered x.charged x.spec.period x.spec.maximum x.account.deadline d
      (share x.spec.maximum x.spec.period) some
      (paid_always t x here) (tested_le x.account.deadline d a) covers)
      rest in
      rw (sum_by-cons (held_share t) x xs) (kept_more t d x xs (is_released t x) refl one rest)

  -- the units that a frame still needs can be charged
  pub chargeable : (t : ℕ) (x : StreamState F) (k : ℕ) → t ≤ LAST_MOMENT → IsSound t x → x.finished < x.accepted
      → cost_of_first x.done (costs x.spec) + k ≤ cost x.spec → CanCharge k x.account
  chargeable t x k clock h l m =
      let some : 1 ≤ x.accepted = omega arith in
      let paid = units_paid x.spec t x.accepted x.charged k x.account h.bandwidth some h.account in
      let many : x.accepted ≤ MOST_FRAMES = omega (arith, h.limit, h.limits.frames) in
      let done = cost_of_first x.done (costs x.spec) in
      let few : x.finished * cost x.spec + done + k ≤ MOST_FRAMES * MOST_COST =
      few_units x.finished x.accepted (cost x.spec) done k MOST_FRAMES MOST_COST l many m h.limits.cost in
      let last = last_deadline (after_units k x.account).deadline t x.spec.period
      (x.charged + k) paid.soon clock
      h.bandwidth.2 (omega (arith, few, h.charged)) in
      (omega (arith, m, h.limits.cost), last)

module _ {F G : Type 0} (measures : StreamSpec → F → Bool → Type 0)
    (is_image : StreamSpec → F → G → Type 0) where
  -- a stream of the summary is what its past makes of its spec
  pub past_of : (setup : Setup) (p : Transcript F G) (s : ℕ) (x : StreamState F)
      → slice_get (state_of setup p).streams s ≡ Some x
      → (spec : StreamSpec) × (slice_get (specs setup p) s ≡ Some spec) × (x ≡ stream_of spec (past setup s p))
  past_of setup p s x k = get_map_at (λ s spec. stream_of spec (past setup s p)) s (specs setup p) x k

  own_account : (setup : Setup) (p : Transcript F G) (s : ℕ) (x : StreamState F) (es : List OwnEvent)
      → slice_get (state_of setup p).streams s ≡ Some x → own_events (costs x.spec) (past setup s p) ≡ es
      → x.account ≡ cbs x.spec.maximum x.spec.period es
  own_account setup p s x es k own =
      let from = past_of setup p s x k in
      let mine : own_events (costs from.0) (past setup s p) ≡ es = rw from.2 at own in
      rw (from.2) (ap (cbs from.0.maximum from.0.period) mine)

  pub delay_is : Bandwidth → DelayLaw measures is_image
  delay_is bandwidth setup p w s number grant u r x y later earlier v l k j ready own =
      let m = state_of setup p in
      let h = (sound measures is_image setup p v l.0).streams s x k in
      let free = lease_inv F G (slice_get m.workers w) (AllowsLease {F = F} {G = G} m (Leased s number grant))
      s number grant l.1 in
      let due : x.account.deadline ≤ y.account.deadline = earliest_due m s u x y free.1.0 k j ready in
      let a = own_account setup p s x (later ++ Idle r ∷ earlier) k own in
      let b : (unit_count later + x.account.budget) * x.spec.period + r * x.spec.maximum
      ≤ x.account.deadline * x.spec.maximum =
      rw a (bandwidth x.spec.maximum x.spec.period r later earlier h.bandwidth.0) in
      le_trans b (mul-le-mul_right x.spec.maximum due)

  pub demand_is : DemandLaw measures is_image
  demand_is setup p v f l =
      let m = state_of setup p in
      let h = sound measures is_image setup p v l in (
        λ s x k. paid_always m.clock x (h.streams s x k),
        λ d.
            let one = demand_within m.clock d m.streams h.streams in
            let fits = fits_is measures is_image setup p v f l in
            let two : d * sum_by (held_share m.clock) m.streams ≤ d * (1000000 * length m.workers) =
            mul-le-mul_left d fits in
            let count : length m.workers ≡ setup.workers =
            length_map_at {X = ℕ} (λ w none. held w p) 0 (replicate setup.workers 0)
            ∙ length-replicate setup.workers 0 in
            let three : d * (1000000 * length m.workers) ≡ d * (1000000 * setup.workers) =
            ap (λ (n : ℕ). d * (1000000 * n)) count in
            omega (arith, one, two, three),
      )
