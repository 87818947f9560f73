-- Whether a stream of a tally is the earliest.
use Rattle.std.proofs.Common.{ℕ, ◌+◌, ◌≡◌, ◌≤◌, ◌<◌, ◌⊎◌, inl, inr, true, List, length, map, nat_lt, Option, Some}
use Rattle.std.proofs.Common.{None, slice_get, refl, sym, ◌∙◌, ap, subst, arith}
use Rattle.std.proofs.lemmas.Bool.Decides.{nat_tests}
use Rattle.std.proofs.lemmas.Option.{slice_get-map, slice_get_within}
use Rattle.std.specs.Option.{option_map}
use Rattle.edf_pool.specs.Earliest.{IsEarliest, IsReady}
use Rattle.serve_core.specs.Bare.{Blank}
use Rattle.serve_core.specs.Sooner.{ComesBefore}
use Rattle.serve_core.specs.States.{StreamState, ready_deadline}
use Rattle.serve_core.proofs.Transcripts.PickedSteps.{lt_or_le}

-- the deadlines of these streams
abbrev pub shown : List (StreamState Blank) → List (Option ℕ)
shown rows = map ready_deadline rows

-- no stream of the first n comes before one with the deadline d at place s
abbrev pub NoneBefore : List (StreamState Blank) → (s d n : ℕ) → Type 0
NoneBefore rows s d n =
    (t : ℕ) (y : StreamState Blank) → t < n → slice_get rows t ≡ Some y
    → ComesBefore (ready_deadline y) d (nat_lt t s) → ⊥

less_test : (a b : ℕ) → a < b → nat_lt a b ≡ true
less_test a b h = grind (arith, nat_tests)

test_less : (a b : ℕ) → nat_lt a b ≡ true → a < b
test_less a b h = grind (arith, nat_tests)

mapped : {X Y : Type 0} (f : X → Y) (o : Option X) (y : Y) → option_map f o ≡ Some y
    → (x : X) × (o ≡ Some x) × (f x ≡ y)
mapped f None y e = absurd (cc)
mapped f (Some x) y e = (x, refl, cc)

row_at : (rows : List (StreamState Blank)) (t e : ℕ) → IsReady (shown rows) t e
    → (x : StreamState Blank) × (slice_get rows t ≡ Some x) × (ready_deadline x ≡ Some e)
row_at rows t e h = mapped ready_deadline (slice_get rows t) (Some e) (sym (slice_get-map ready_deadline rows t) ∙ h)

ready_at : (rows : List (StreamState Blank)) (t d : ℕ) (x : StreamState Blank) → slice_get rows t ≡ Some x
    → ready_deadline x ≡ Some d → IsReady (shown rows) t d
ready_at rows t d x e r =
    slice_get-map ready_deadline rows t ∙ ap (option_map ready_deadline) e ∙ ap (λ (o : Option ℕ). Some o) r

pub none_before : (rows : List (StreamState Blank)) (s d : ℕ) → NoneBefore rows s d 0
none_before rows s d t y l e b = absurd (omega (arith, l))

same_place : (rows : List (StreamState Blank)) (s t : ℕ) (x y : StreamState Blank) → s ≡ t
    → slice_get rows s ≡ Some x → slice_get rows t ≡ Some y → x ≡ y
same_place rows s t x y p e f = let g : slice_get rows t ≡ Some x = rw p at e in cc

same_or_less : (t n : ℕ) → t < n + 1 → (t ≡ n) ⊎ (t < n)
same_or_less t n l = grind arith

pub more_before : (rows : List (StreamState Blank)) (s d n : ℕ) (x : StreamState Blank) → NoneBefore rows s d n
    → slice_get rows n ≡ Some x → (ComesBefore (ready_deadline x) d (nat_lt n s) → ⊥)
    → NoneBefore rows s d (n + 1)
more_before rows s d n x h e not t y l f b =
    elim (same_or_less t n l) [
      | inl p ↦
          let same : y ≡ x = same_place rows t n y x p f e in
          not (subst (λ (k : ℕ). ComesBefore (ready_deadline x) d (nat_lt k s)) p
          (subst (λ (z : StreamState Blank). ComesBefore (ready_deadline z) d (nat_lt t s)) same b))
      | inr p ↦ h t y p f b
    ]

pub earliest_is : (rows : List (StreamState Blank)) (s d n : ℕ) (x : StreamState Blank) → length rows ≤ n
    → slice_get rows s ≡ Some x → ready_deadline x ≡ Some d → NoneBefore rows s d n → IsEarliest (shown rows) s
earliest_is rows s d n x all e r none = record {
  deadline = d;
  ready = ready_at rows s d x e r;
  earliest = λ t k at.
      let y = row_at rows t k at in
      let within = slice_get_within rows t y.0 y.1 in
      elim (lt_or_le k d) [
        | inl l ↦ absurd (none t y.0 (omega (arith, within, all)) y.1 (rw y.2 (inl l)))
        | inr l ↦ l
      ];
  lowest = λ t at.
      let y = row_at rows t d at in
      let within = slice_get_within rows t y.0 y.1 in
      elim (lt_or_le t s) [
        | inl l ↦ absurd (none t y.0 (omega (arith, within, all)) y.1 (rw y.2 (inr (refl, less_test t s l))))
        | inr l ↦ l
      ];
}

pub not_ready : (rows : List (StreamState Blank)) (s : ℕ) (x : StreamState Blank) → slice_get rows s ≡ Some x
    → ready_deadline x ≡ None → IsEarliest (shown rows) s → ⊥
not_ready rows s x e r h =
    let y = row_at rows s h.deadline h.ready in
    let same : y.0 ≡ x = same_place rows s s y.0 x refl y.1 e in
    let no : Some h.deadline ≡ None = sym y.2 ∙ ap ready_deadline same ∙ r in
    absurd (cc)

one_deadline : (a b : ℕ) → Some a ≡ Some b → a ≡ b
one_deadline a b e = cc

sooner_wrong : (rows : List (StreamState Blank)) (s t d : ℕ) (o : Option ℕ) (y : StreamState Blank)
    → slice_get rows t ≡ Some y → ready_deadline y ≡ o → ComesBefore o d (nat_lt t s)
    → (h : IsEarliest (shown rows) s) → h.deadline ≡ d → ⊥
sooner_wrong rows s t d None y e r b h p = absurd b
sooner_wrong rows s t d (Some k) y e r (inl l) h p =
    absurd (omega (arith, h.earliest t k (ready_at rows t k y e r), l, p))
sooner_wrong rows s t d (Some k) y e r (inr l) h p =
    let at = ready_at rows t k y e r in
    let same : k ≡ h.deadline = l.0 ∙ sym p in
    let lowest = h.lowest t (subst (λ (k : ℕ). IsReady (shown rows) t k) same at) in
    absurd (omega (arith, lowest, test_less t s l.1))

pub earliest_not : (rows : List (StreamState Blank)) (s t d : ℕ) (x y : StreamState Blank) → slice_get rows s ≡ Some x
    → ready_deadline x ≡ Some d → slice_get rows t ≡ Some y → ComesBefore (ready_deadline y) d (nat_lt t s)
    → IsEarliest (shown rows) s → ⊥
earliest_not rows s t d x y e r f b h =
    let z = row_at rows s h.deadline h.ready in
    let same : z.0 ≡ x = same_place rows s s z.0 x refl z.1 e in
    let due = one_deadline h.deadline d (sym z.2 ∙ ap ready_deadline same ∙ r) in
    sooner_wrong rows s t d (ready_deadline y) y f refl b h due
