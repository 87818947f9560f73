-- Numbers parted into runs of equal length, the last one cut off.
use Rattle.std.proofs.Common.{ℕ, ◌≡◌, ◌+◌, ◌*◌, ◌/◌, ◌%◌, ◌<◌, ◌≤◌, ◌⊎◌, inl, inr, min, arith, ap, sym, Bool, true, false, if◌then◌else◌}
use Rattle.std.specs.Int.{div_ceil}
use Rattle.std.proofs.lemmas.Grind.{div_ceil_times}
use Rattle.std.proofs.Math.Nat.{mul-le-mul_right, div-mul-le_self, lt-div-mul-add, div-eq_of_lt-le}

abbrev pub pick : Bool → ℕ → ℕ → ℕ
pick t full divided = if t then divided else full

pub below_count : (n b k : ℕ) → 0 < b → k * b < n → k < div_ceil n b
below_count n b k hb h = elim (either k (div_ceil n b)) [
  | inl l ↦ l
  | inr r ↦ absurd (let a = div_ceil_times n b hb in omega (arith, a.0, mul-le-mul_right {m = div_ceil n b} {n = k} b r))
]
  where
    either : (a b : ℕ) → (a < b) ⊎ (b ≤ a)
    either a b = grind arith

pub starts_inside : (n b k : ℕ) → 0 < b → k < div_ceil n b → k * b < n
starts_inside n b k hb h = let a = div_ceil_times n b hb in
    omega (arith, a.1, mul-le-mul_right {m = k + 1} {n = div_ceil n b} b (omega arith))

within : (e c y : ℕ) → 0 < c → y < e → ((y / c) * c ≤ y) × (y < min e ((y / c + 1) * c))
within e c y hc h = (div-mul-le_self y c, omega (arith, lt-div-mul-add {a = y} {b = c} hc))

alone : (e c y j : ℕ) → 0 < c → j * c ≤ y → y < min e ((j + 1) * c) → j ≡ y / c
alone e c y j hc h l = sym (div-eq_of_lt-le {k = j} c {m = y} h (omega arith))

half_times : (k b : ℕ) → b % 2 ≡ 0 → (k * b) / 2 ≡ k * (b / 2)
half_times k b e = let twice : b ≡ 2 * (b / 2) = omega arith in omega (arith, ap (λ z. k * z) twice)

half_min : (n k b : ℕ) → n % 2 ≡ 0 → b % 2 ≡ 0 → (min n (k * b)) / 2 ≡ min (n / 2) (k * (b / 2))
half_min n k b d e = let h = half_times k b e in let twice : b ≡ 2 * (b / 2) = omega arith in omega (arith, ap (λ z. k * z) twice)

by_one : (n : ℕ) → n / 1 ≡ n
by_one n = omega arith

abbrev pub IsIn : Bool → ℕ → ℕ → ℕ → ℕ → ℕ → Type 0
IsIn t d n b k y = (pick t (k * b) ((k * b) / d) ≤ y) × (y < pick t (min n ((k + 1) * b)) ((min n ((k + 1) * b)) / d))

abbrev pub InOne : Bool → ℕ → ℕ → ℕ → ℕ → Type 0
InOne t d n b y = (k : ℕ) × (k < div_ceil n b) × IsIn t d n b k y × ((j : ℕ) → IsIn t d n b j y → j ≡ k)

whole_in_one : (n b y : ℕ) → 2 ≤ b → y < n → InOne false 1 n b y
whole_in_one n b y hb h =
    let w = within n b y (omega arith) h in
    (y / b, below_count n b (y / b) (omega arith) (omega (arith, w.0)), (w.0, w.1), λ j i. alone n b y j (omega arith) i.0 i.1)

pub in_one : (t : Bool) (d n b y : ℕ) → (d ≡ 1) ⊎ (d ≡ 2) → 2 ≤ b → b % 2 ≡ 0 → n % d ≡ 0 → y < pick t n (n / d) → InOne t d n b y
in_one false d n b y c hb e f h = whole_in_one n b y hb h
in_one true d n b y (inl o) hb e f h =
    let w = whole_in_one n b y hb (omega (arith, by_one n, ap (λ z. n / z) o)) in
    rw o (
      w.0,
      w.1,
      (rw (by_one (w.0 * b)) w.2.0, rw (by_one (min n ((w.0 + 1) * b))) w.2.1),
      λ j i. w.3 j (rw (by_one (j * b)) at i.0, rw (by_one (min n ((j + 1) * b))) at i.1),
    )
in_one true d n b y (inr o) hb e f h =
    let f' : n % 2 ≡ 0 = rw o at f in
    let w = within (n / 2) (b / 2) y (omega arith) (rw o at h) in
    let k = y / (b / 2) in
    rw o (
      k,
      below_count n b k (omega arith) (omega (arith, w.0, half_times k b e)),
      (rw (half_times k b e) w.0, rw (half_min n (k + 1) b f' e) w.1),
      λ j i. alone (n / 2) (b / 2) y j (omega arith) (rw (half_times j b e) at i.0) (rw (half_min n (j + 1) b f' e) at i.1),
    )

-- a band that begins inside has rows
pub some_rows : (t : Bool) (d n b k : ℕ) → (d ≡ 1) ⊎ (d ≡ 2) → 2 ≤ b → b % 2 ≡ 0 → n % d ≡ 0 → k < div_ceil n b
    → pick t (k * b) ((k * b) / d) < pick t (min n ((k + 1) * b)) ((min n ((k + 1) * b)) / d)
some_rows false d n b k c hb e f h = omega (arith, starts_inside n b k (omega arith) h)
some_rows true d n b k (inl o) hb e f h =
    rw (o, by_one (k * b), by_one (min n ((k + 1) * b))) (omega (arith, starts_inside n b k (omega arith) h))
some_rows true d n b k (inr o) hb e f h =
    let f' : n % 2 ≡ 0 = rw o at f in
    rw (o, half_times k b e, half_min n (k + 1) b f' e) (omega (arith, starts_inside n b k (omega arith) h, half_times k b e))
