-- Sums by index, sums of groups of four terms, and the means of squares.
use Rattle.std.proofs.Common.{◌≡◌, ℕ, ◌+◌, ◌*◌, ◌≤◌, ◌<◌, ◌/◌, ◌^◌, refl, suc, zero, arith, subst, sym}
use Rattle.std.proofs.Common.{ap, ◌∙◌, ◌⊎◌, ⊎_elim}
use Rattle.std.proofs.Common.{List, length, get_or, set}
use Rattle.std.proofs.lemmas.List.Edits.{fill_by_more}
use Rattle.std.proofs.lemmas.Nat.{div_below}
use Rattle.std.proofs.Math.Numerals.{add-one}
use Rattle.filters.specs.Blur.{sum_below, clamped}

pub sum_below_more : (f : ℕ → ℕ) (n : ℕ) → sum_below f (n + 1) ≡ sum_below f n + f n
sum_below_more f n = rw (add-one) refl

-- equal terms make equal sums
pub sum_below_same : (f g : ℕ → ℕ) (n : ℕ) → ((k : ℕ) → k < n → f k ≡ g k) → sum_below f n ≡ sum_below g n
sum_below_same f g zero h = refl
sum_below_same f g (suc n) h =
    let here : f n ≡ g n = h n (omega arith) in
    let before : sum_below f n ≡ sum_below g n = sum_below_same f g n (λ k p. h k (omega arith)) in
    omega arith

pub sum_below_most : (f : ℕ → ℕ) (m n : ℕ) → ((k : ℕ) → k < n → f k ≤ m) → sum_below f n ≤ m * n
sum_below_most f m zero h = omega arith
sum_below_most f m (suc n) h =
    let here : f n ≤ m = h n (omega arith) in
    let before : sum_below f n ≤ m * n = sum_below_most f m n (λ k p. h k (omega arith)) in
    omega arith

-- The places round the next one are those round this one, one step on.
pub clamped_next : (count r at k : ℕ) → clamped count r (at + 1) k ≡ clamped count r at (k + 1)
clamped_next count r at k = omega arith

-- The sum round the next place: the term that enters comes in, the one that leaves goes out.
pub sum_slides : (g : ℕ → ℕ) (count r at n : ℕ) →
    sum_below (λ k. g (clamped count r (at + 1) k)) n + g (clamped count r at 0)
    ≡ sum_below (λ k. g (clamped count r at k)) n + g (clamped count r at n)
sum_slides g count r at zero = refl
sum_slides g count r at (suc n) =
    let before : sum_below (λ k. g (clamped count r (at + 1) k)) n + g (clamped count r at 0)
    ≡ sum_below (λ k. g (clamped count r at k)) n + g (clamped count r at n) = sum_slides g count r at n in
    let step : g (clamped count r (at + 1) n) ≡ g (clamped count r at (suc n)) =
    ap g (clamped_next count r at n ∙ ap (λ k. clamped count r at k) (add-one n)) in
    omega arith

split : (k n : ℕ) → k < suc n → (k ≡ n) ⊎ (k < n)
split k n h = grind arith

-- One term is at most the sum.
pub term_within : (f : ℕ → ℕ) (n k : ℕ) → k < n → f k ≤ sum_below f n
term_within f zero k h = omega arith
term_within f (suc n) k h =
    ⊎_elim (λ (e : k ≡ n). let same : f k ≡ f n = ap f e in omega arith)
    (λ (l : k < n). let before : f k ≤ sum_below f n = term_within f n k l in omega arith)
    (split k n h)

-- A loop that writes f k at each index k, one step on.
pub written_more : (f : ℕ → ℕ) (xs : List ℕ) (i v : ℕ) → i < length xs → v ≡ f i →
    ((k : ℕ) → k < i → get_or xs k 0 ≡ f k) → (k : ℕ) → k < i + 1 → get_or (set xs i v) k 0 ≡ f k
written_more f xs i v h e before =
    let P : ℕ → Type 0 = λ w. (k : ℕ) → k < i + 1 → get_or (set xs i w) k 0 ≡ f k in
    subst P (sym e) (fill_by_more f xs i 0 h before)

-- A sum is that of its first m terms and that of the n after them.
sum_below_append : (f : ℕ → ℕ) (m n : ℕ) → sum_below f (m + n) ≡ sum_below f m + sum_below (λ j. f (m + j)) n
sum_below_append f m zero = let e : m + 0 ≡ m = omega arith in ap (sum_below f) e ∙ (omega arith)
sum_below_append f m (suc n) =
    let place : m + suc n ≡ m + n + 1 = omega arith in
    let more : sum_below f (m + n + 1) ≡ sum_below f (m + n) + f (m + n) = sum_below_more f (m + n) in
    let before : sum_below f (m + n) ≡ sum_below f m + sum_below (λ j. f (m + j)) n =
    sum_below_append f m n in
    let same : sum_below f (m + suc n) ≡ sum_below f (m + n + 1) = ap (sum_below f) place in
    omega arith

-- four terms more
pub sum_below_four : (f : ℕ → ℕ) (n : ℕ) →
    sum_below f (4 * (n + 1))
    ≡ sum_below f (4 * n) + (f (4 * n) + f (4 * n + 1) + f (4 * n + 2) + f (4 * n + 3))
sum_below_four f n =
    let place : 4 * (n + 1) ≡ 4 * n + 4 = omega arith in
    let append : sum_below f (4 * n + 4) ≡ sum_below f (4 * n) + sum_below (λ j. f (4 * n + j)) 4 =
    sum_below_append f (4 * n) 4 in
    let first : f (4 * n + 0) ≡ f (4 * n) = ap f (omega arith) in
    ap (sum_below f) place ∙ append ∙ (omega arith)

before_and_last : (a b c d e f : ℕ) → a ≡ b → c ≡ d → d ≡ b + e → e ≡ f → a + f ≡ c
before_and_last a b c d e f p q r s = omega arith

-- The sum of groups of four terms is that of all their terms.
sum_of_fours : (c : ℕ → ℕ) (x n : ℕ) →
    sum_below (λ g. sum_below (λ j. c (x + 4 * g + j)) 4) n ≡ sum_below (λ j. c (x + j)) (4 * n)
sum_of_fours c x zero = refl
sum_of_fours c x (suc n) =
    let place : 4 * suc n ≡ 4 * n + 4 = omega arith in
    before_and_last _ _ _ _ _ _ (sum_of_fours c x n)
    (ap (sum_below (λ j. c (x + j))) place)
    (sum_below_append (λ j. c (x + j)) (4 * n) 4)
    (sum_below_same (λ j. c (x + (4 * n + j))) (λ j. c (x + 4 * n + j)) 4 (λ k h. ap c (omega arith)))

-- The sum of n groups of four terms and of the rest after them is that of all terms.
pub sum_of_groups : (c f : ℕ → ℕ) (x count n rest : ℕ) → count ≡ 4 * n + rest →
    ((g : ℕ) → g < n → f (x + 4 * g) ≡ sum_below (λ j. c (x + 4 * g + j)) 4) →
    sum_below (λ g. f (x + 4 * g)) n + sum_below (λ j. c (x + 4 * n + j)) rest
    ≡ sum_below (λ j. c (x + j)) count
sum_of_groups c f x count n rest parts h =
    let groups : sum_below (λ g. f (x + 4 * g)) n ≡ sum_below (λ j. c (x + j)) (4 * n) =
    sum_below_same (λ g. f (x + 4 * g)) (λ g. sum_below (λ j. c (x + 4 * g + j)) 4) n h
    ∙ sum_of_fours c x n in
    let append = sum_below_append (λ j. c (x + j)) (4 * n) rest in
    let last =
    sum_below_same (λ j. c (x + (4 * n + j))) (λ j. c (x + 4 * n + j)) rest (λ k p. ap c (omega arith)) in
    let whole = ap (sum_below (λ j. c (x + j))) parts in
    omega arith

square_some : (s : ℕ) → 0 < s → 0 < s * s
square_some s some = grind arith

square_short : (s : ℕ) → s ≤ 15 → s * s ≤ 225
square_short s few = grind arith

-- The rounded mean of a square of up to 15 columns fits a byte, and its sum 16 bits.
pub mean_fits : (sum s : ℕ) → 0 < s → s ≤ 15 → sum ≤ 255 * (s * s) →
    (s * s < 2 ^ 16) × (0 < s * s) × (sum + s * s / 2 < 2 ^ 16) × ((sum + s * s / 2) / (s * s) < 256)
mean_fits sum s some few bytes =
    let positive = square_some s some in
    let small = square_short s few in
    (omega arith, positive, omega arith, div_below (sum + s * s / 2) (s * s) 256 positive (omega arith))

-- the sum of s columns of s samples each
pub sum_of_bytes : (c : ℕ → ℕ) (x s : ℕ) → ((j : ℕ) → j < s → c (x + j) ≤ 255 * s) →
    sum_below (λ j. c (x + j)) s ≤ 255 * (s * s)
sum_of_bytes c x s bytes =
    let most = sum_below_most (λ j. c (x + j)) (255 * s) s bytes in
    omega arith
