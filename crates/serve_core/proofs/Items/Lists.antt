use Rattle.std.proofs.Common.{ℕ, zero, suc, ◌+◌, ◌≡◌, ◌≢◌, ◌≤◌, ◌<◌, ◌⊎◌, inl, inr, All, List, [], ◌∷◌, ◌++◌}
use Rattle.std.proofs.Common.{Some, None, slice_get, slice_set, get_or, length, refl, sym, ◌∙◌, ap, arith}
use Rattle.std.proofs.Common.{add-zero, zero-add, subst}
use Rattle.std.proofs.lemmas.List.Elements.{All-get_or}
use Rattle.std.proofs.lemmas.Option.{get_or_from_slice_get, slice_get_within}
use Rattle.serve_core.specs.States.{map_at}

-- what holds of each item holds of the one at a place
pub all_at : {X : Type 0} (P : X → Type 0) (xs : List X) (i : ℕ) (x : X) → All P xs → slice_get xs i ≡ Some x
    → P x
all_at P xs i x h e =
    subst P (get_or_from_slice_get xs i x x e) (All-get_or P xs i x (slice_get_within xs i x e) h)

pub map_at_same : {X : Type 0} (i : ℕ) (xs : List X) → map_at i (λ s x. x) xs ≡ xs
map_at_same i [] = refl
map_at_same i (x ∷ xs) = ap (λ ys. x ∷ ys) (map_at_same (suc i) xs)

-- f leaves each item from place i on
pub map_at_kept : {X : Type 0} (f : ℕ → X → X) (i : ℕ) (xs : List X)
    → ((t : ℕ) (y : X) → i < suc t → f t y ≡ y) → map_at i f xs ≡ xs
map_at_kept f i [] h = refl
map_at_kept f i (x ∷ xs) h =
    let head : f i x ≡ x = h i x (omega arith) in
    let tail = map_at_kept f (suc i) xs (λ t y l. h t y (omega arith)) in
    cc

-- f changes one item alone
pub map_at_one : {X : Type 0} (f : ℕ → X → X) (i s : ℕ) (xs : List X) (x : X) → slice_get xs s ≡ Some x
    → ((t : ℕ) (y : X) → t ≢ s + i → f t y ≡ y) → map_at i f xs ≡ slice_set xs s (f (s + i) x)
map_at_one f i s [] x e h = refl
map_at_one f i zero (y ∷ xs) x e h =
    let same : y ≡ x = cc in
    let head : f i y ≡ f (0 + i) x = rw (zero-add, same) refl in
    let tail : map_at (suc i) f xs ≡ xs = map_at_kept f (suc i) xs (λ t z l. h t z (λ p. omega arith)) in
    cc
map_at_one f i (suc s) (y ∷ xs) x e h =
    let head : f i y ≡ y = h i y (λ p. omega arith) in
    let place : s + suc i ≡ suc s + i = omega arith in
    let tail : map_at (suc i) f xs ≡ slice_set xs s (f (suc s + i) x) =
    subst (λ (n : ℕ). map_at (suc i) f xs ≡ slice_set xs s (f n x)) place
    (map_at_one f (suc i) s xs x e (λ t z p. h t z (λ q. p (q ∙ sym place)))) in
    cc

pub slice_get_here : {X : Type 0} (xs : List X) (i : ℕ) (x : X) → i < length xs → x ≡ get_or xs i x
    → slice_get xs i ≡ Some x
slice_get_here [] i x l e = absurd (omega arith)
slice_get_here (y ∷ xs) zero x l e = ap Some (sym e)
slice_get_here (y ∷ xs) (suc i) x l e = slice_get_here xs i x (omega arith) e

pub slice_get_set_same : {X : Type 0} (xs : List X) (i : ℕ) (y : X) → i < length xs
    → slice_get (slice_set xs i y) i ≡ Some y
slice_get_set_same [] i y l = absurd (omega arith)
slice_get_set_same (x ∷ xs) zero y l = refl
slice_get_set_same (x ∷ xs) (suc i) y l = slice_get_set_same xs i y (omega arith)

pub slice_get_set_other : {X : Type 0} (xs : List X) (i j : ℕ) (y : X) → j ≢ i
    → slice_get (slice_set xs i y) j ≡ slice_get xs j
slice_get_set_other [] i j y n = refl
slice_get_set_other (x ∷ xs) zero zero y n = absurd (n refl)
slice_get_set_other (x ∷ xs) zero (suc j) y n = refl
slice_get_set_other (x ∷ xs) (suc i) zero y n = refl
slice_get_set_other (x ∷ xs) (suc i) (suc j) y n = slice_get_set_other xs i j y (λ e. n (ap suc e))

get_map_at_from : {X Y : Type 0} (f : ℕ → X → Y) (i s : ℕ) (xs : List X) (y : Y)
    → slice_get (map_at i f xs) s ≡ Some y → (x : X) × (slice_get xs s ≡ Some x) × (y ≡ f (s + i) x)
get_map_at_from f i s [] y e = absurd (cc)
get_map_at_from f i zero (x ∷ xs) y e = (x, refl, rw zero-add (cc))
get_map_at_from f i (suc s) (x ∷ xs) y e =
    let place : s + suc i ≡ suc s + i = omega arith in
    let g = get_map_at_from f (suc i) s xs y e in
    (g.0, g.1, subst (λ (n : ℕ). y ≡ f n g.0) place g.2)

-- an item of the mapped list comes from the item at its place
pub get_map_at : {X Y : Type 0} (f : ℕ → X → Y) (s : ℕ) (xs : List X) (y : Y)
    → slice_get (map_at 0 f xs) s ≡ Some y → (x : X) × (slice_get xs s ≡ Some x) × (y ≡ f s x)
get_map_at f s xs y e = let g = get_map_at_from f 0 s xs y e in
    (g.0, g.1, subst (λ (n : ℕ). y ≡ f n g.0) (add-zero s) g.2)

map_at_get_from : {X Y : Type 0} (f : ℕ → X → Y) (i s : ℕ) (xs : List X) (x : X) → slice_get xs s ≡ Some x
    → slice_get (map_at i f xs) s ≡ Some (f (s + i) x)
map_at_get_from f i s [] x e = absurd (cc)
map_at_get_from f i zero (z ∷ xs) x e = let same : z ≡ x = cc in rw (zero-add, same) refl
map_at_get_from f i (suc s) (z ∷ xs) x e =
    let place : s + suc i ≡ suc s + i = omega arith in
    subst (λ (n : ℕ). slice_get (map_at (suc i) f xs) s ≡ Some (f n x)) place
    (map_at_get_from f (suc i) s xs x e)

pub map_at_get : {X Y : Type 0} (f : ℕ → X → Y) (s : ℕ) (xs : List X) (x : X) → slice_get xs s ≡ Some x
    → slice_get (map_at 0 f xs) s ≡ Some (f s x)
map_at_get f s xs x e =
    subst (λ (n : ℕ). slice_get (map_at 0 f xs) s ≡ Some (f n x)) (add-zero s) (map_at_get_from f 0 s xs x e)

pub length_map_at : {X Y : Type 0} (f : ℕ → X → Y) (i : ℕ) (xs : List X) → length (map_at i f xs) ≡ length xs
length_map_at f i [] = refl
length_map_at f i (x ∷ xs) = let tail = length_map_at f (suc i) xs in omega (arith, tail)

-- one item more, behind all others
pub map_at_push : {X Y : Type 0} (f : ℕ → X → Y) (i n : ℕ) (xs : List X) (x : X) → n ≡ length xs + i
    → map_at i f (xs ++ x ∷ []) ≡ map_at i f xs ++ f n x ∷ []
map_at_push f i n [] x e = let same : n ≡ i = omega (arith, e) in rw same refl
map_at_push f i n (y ∷ xs) x e = ap (λ ys. f i y ∷ ys) (map_at_push f (suc i) n xs x (omega (arith, e)))

pub push_old : {X : Type 0} (xs : List X) (y : X) (s : ℕ) (x : X) → slice_get xs s ≡ Some x
    → slice_get (xs ++ y ∷ []) s ≡ Some x
push_old [] y s x e = absurd (cc)
push_old (z ∷ xs) y zero x e = e
push_old (z ∷ xs) y (suc s) x e = push_old xs y s x e

pub push_last : {X : Type 0} (xs : List X) (y : X) (s : ℕ) → s ≡ length xs → slice_get (xs ++ y ∷ []) s ≡ Some y
push_last [] y zero e = refl
push_last [] y (suc s) e = absurd (omega (arith, e))
push_last (z ∷ xs) y zero e = absurd (omega (arith, e))
push_last (z ∷ xs) y (suc s) e = push_last xs y s (omega (arith, e))

pub push_or : {X : Type 0} (xs : List X) (y : X) (s : ℕ) (x : X) → slice_get (xs ++ y ∷ []) s ≡ Some x
    → (slice_get xs s ≡ Some x) ⊎ ((s ≡ length xs) × (x ≡ y))
push_or [] y zero x e = inr (omega arith, cc)
push_or [] y (suc s) x e = absurd (cc)
push_or (z ∷ xs) y zero x e = inl e
push_or (z ∷ xs) y (suc s) x e =
    elim (push_or xs y s x e) [ inl old ↦ inl old | inr last ↦ inr (omega (arith, last.0), last.1) ]

pub none_past : {X : Type 0} (xs : List X) (s : ℕ) → length xs ≤ s → slice_get xs s ≡ None
none_past [] s l = refl
none_past (x ∷ xs) zero l = absurd (omega (arith, l))
none_past (x ∷ xs) (suc s) l = none_past xs s (omega (arith, l))
