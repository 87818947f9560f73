-- The items of a list that are picked, and the places that they have among these.
use Rattle.std.proofs.Common.{ℕ, zero, suc, ◌≡◌, ◌≤◌, ◌⊎◌, inl, inr, Bool, true, false, List, [], ◌∷◌, ◌++◌}
use Rattle.std.proofs.Common.{All, Some, slice_get, slice_set, length, map, filter, refl, sym, ap, subst, arith}
use Rattle.std.proofs.Common.{le_refl, ◌≢◌, ◌<◌, ◌∙◌, nat_eq, take}
use Rattle.std.proofs.lemmas.Bool.Decides.{nat_tests}
use Rattle.std.proofs.lemmas.List.Elements.{All-cons, All-head, All-nil, All-tail}

pub true_or : (b : Bool) → (b ≡ true) ⊎ (b ≡ false)
true_or true = inl refl
true_or false = inr refl

-- the items that are picked, in order; where the tests end all others are
abbrev pub picked : {X : Type 0} → List Bool → List X → List X
picked [] xs = xs
picked (b ∷ bs) [] = []
picked (true ∷ bs) (x ∷ xs) = x ∷ picked bs xs
picked (false ∷ bs) (x ∷ xs) = picked bs xs

-- whether the item at a place is picked
abbrev pub is_picked : List Bool → ℕ → Bool
is_picked [] s = true
is_picked (b ∷ bs) zero = b
is_picked (b ∷ bs) (suc s) = is_picked bs s

-- how many are picked before a place
abbrev pub place : List Bool → ℕ → ℕ
place [] s = s
place (b ∷ bs) zero = 0
place (true ∷ bs) (suc s) = suc (place bs s)
place (false ∷ bs) (suc s) = place bs s

pub place_le : (bs : List Bool) (s t : ℕ) → s ≤ t → place bs s ≤ place bs t
place_le [] s t l = l
place_le (b ∷ bs) zero t l = omega arith
place_le (b ∷ bs) (suc s) zero l = absurd (omega (arith, l))
place_le (true ∷ bs) (suc s) (suc t) l = let tail = place_le bs s t (omega (arith, l)) in omega (arith, tail)
place_le (false ∷ bs) (suc s) (suc t) l = place_le bs s t (omega (arith, l))

-- one that is picked has a place before all later ones
pub place_lt : (bs : List Bool) (s t : ℕ) → is_picked bs s ≡ true → s < t → place bs s < place bs t
place_lt [] s t p l = l
place_lt (true ∷ bs) zero zero p l = absurd (omega (arith, l))
place_lt (true ∷ bs) zero (suc t) p l = omega arith
place_lt (false ∷ bs) zero t p l = absurd (cc)
place_lt (b ∷ bs) (suc s) zero p l = absurd (omega (arith, l))
place_lt (true ∷ bs) (suc s) (suc t) p l = let tail = place_lt bs s t p (omega (arith, l)) in omega (arith, tail)
place_lt (false ∷ bs) (suc s) (suc t) p l = place_lt bs s t p (omega (arith, l))

apart : (a b : ℕ) → (a ≡ b) ⊎ ((a < b) ⊎ (b < a))
apart a b = grind arith

-- so no two that are picked have the same place
pub same_place : (bs : List Bool) (s t : ℕ) → is_picked bs s ≡ true → is_picked bs t ≡ true → place bs s ≡ place bs t
    → s ≡ t
same_place bs s t p q e =
    elim (apart s t) [
      | inl same ↦ same
      | inr other ↦ elim other [
        | inl l ↦ absurd (let less = place_lt bs s t p l in omega (arith, less, e))
        | inr l ↦ absurd (let less = place_lt bs t s q l in omega (arith, less, e))
      ]
    ]

eq_or : (a b : ℕ) → ((a ≡ b) × (nat_eq a b ≡ true)) ⊎ ((a ≢ b) × (nat_eq a b ≡ false))
eq_or a b = grind (arith, nat_tests)

-- and a test of their places is one of their numbers
pub place_test : (bs : List Bool) (s t : ℕ) → is_picked bs s ≡ true → is_picked bs t ≡ true
    → nat_eq (place bs s) (place bs t) ≡ nat_eq s t
place_test bs s t p q =
    elim (eq_or s t) [
      | inl same ↦ elim (eq_or (place bs s) (place bs t)) [
        | inl k ↦ k.1 ∙ sym same.1
        | inr k ↦ absurd (k.0 (ap (place bs) same.0))
      ]
      | inr other ↦ elim (eq_or (place bs s) (place bs t)) [
        | inl k ↦ absurd (other.0 (same_place bs s t p q k.0))
        | inr k ↦ k.1 ∙ sym other.1
      ]
    ]

pub place_within : {X : Type 0} (bs : List Bool) (xs : List X) (s : ℕ) → is_picked bs s ≡ true → s < length xs
    → place bs s < length (picked bs xs)
place_within [] xs s p l = l
place_within (b ∷ bs) [] s p l = absurd (omega (arith, l))
place_within (true ∷ bs) (x ∷ xs) zero p l = omega arith
place_within (false ∷ bs) (x ∷ xs) zero p l = absurd (cc)
place_within (true ∷ bs) (x ∷ xs) (suc s) p l =
    let tail = place_within bs xs s p (omega (arith, l)) in omega (arith, tail)
place_within (false ∷ bs) (x ∷ xs) (suc s) p l = place_within bs xs s p (omega (arith, l))

pub picked_get : {X : Type 0} (bs : List Bool) (xs : List X) (s : ℕ) (x : X) → slice_get xs s ≡ Some x
    → is_picked bs s ≡ true → slice_get (picked bs xs) (place bs s) ≡ Some x
picked_get [] xs s x e p = e
picked_get (b ∷ bs) [] s x e p = absurd (cc)
picked_get (true ∷ bs) (y ∷ xs) zero x e p = e
picked_get (false ∷ bs) (y ∷ xs) zero x e p = absurd (cc)
picked_get (true ∷ bs) (y ∷ xs) (suc s) x e p = picked_get bs xs s x e p
picked_get (false ∷ bs) (y ∷ xs) (suc s) x e p = picked_get bs xs s x e p

-- each item that is there among them was picked
pub picked_from : {X : Type 0} (bs : List Bool) (xs : List X) (t : ℕ) (x : X)
    → slice_get (picked bs xs) t ≡ Some x
    → (s : ℕ) × (slice_get xs s ≡ Some x) × (is_picked bs s ≡ true) × (place bs s ≡ t)
picked_from [] xs t x e = (t, e, refl, refl)
picked_from (b ∷ bs) [] t x e = absurd (cc)
picked_from (true ∷ bs) (y ∷ xs) zero x e = (0, e, refl, refl)
picked_from (true ∷ bs) (y ∷ xs) (suc t) x e =
    let h = picked_from bs xs t x e in (suc h.0, h.1, h.2, ap suc h.3)
picked_from (false ∷ bs) (y ∷ xs) t x e = let h = picked_from bs xs t x e in (suc h.0, h.1, h.2, h.3)

pub picked_set : {X : Type 0} (bs : List Bool) (xs : List X) (s : ℕ) (y : X) → is_picked bs s ≡ true
    → picked bs (slice_set xs s y) ≡ slice_set (picked bs xs) (place bs s) y
picked_set [] xs s y p = refl
picked_set (b ∷ bs) [] s y p = refl
picked_set (true ∷ bs) (x ∷ xs) zero y p = refl
picked_set (false ∷ bs) (x ∷ xs) zero y p = absurd (cc)
picked_set (true ∷ bs) (x ∷ xs) (suc s) y p = ap (λ zs. x ∷ zs) (picked_set bs xs s y p)
picked_set (false ∷ bs) (x ∷ xs) (suc s) y p = picked_set bs xs s y p

-- one that isn't picked may change
pub picked_unset : {X : Type 0} (bs : List Bool) (xs : List X) (s : ℕ) (y : X) → is_picked bs s ≡ false
    → picked bs (slice_set xs s y) ≡ picked bs xs
picked_unset [] xs s y p = absurd (cc)
picked_unset (b ∷ bs) [] s y p = refl
picked_unset (true ∷ bs) (x ∷ xs) zero y p = absurd (cc)
picked_unset (false ∷ bs) (x ∷ xs) zero y p = refl
picked_unset (true ∷ bs) (x ∷ xs) (suc s) y p = ap (λ zs. x ∷ zs) (picked_unset bs xs s y p)
picked_unset (false ∷ bs) (x ∷ xs) (suc s) y p = picked_unset bs xs s y p

picked_none : {X : Type 0} (bs : List Bool) → let none : List X = [] in picked bs none ≡ none
picked_none [] = refl
picked_none (b ∷ bs) = refl

-- one item more, behind all others
pub picked_push : {X : Type 0} (bs : List Bool) (xs : List X) (y : X) → is_picked bs (length xs) ≡ true
    → picked bs (xs ++ y ∷ []) ≡ picked bs xs ++ y ∷ []
picked_push [] xs y p = refl
picked_push (true ∷ bs) [] y p = ap (λ zs. y ∷ zs) (picked_none bs)
picked_push (false ∷ bs) [] y p = absurd (cc)
picked_push (true ∷ bs) (x ∷ xs) y p = ap (λ zs. x ∷ zs) (picked_push bs xs y p)
picked_push (false ∷ bs) (x ∷ xs) y p = picked_push bs xs y p

pub picked_unpush : {X : Type 0} (bs : List Bool) (xs : List X) (y : X) → is_picked bs (length xs) ≡ false
    → picked bs (xs ++ y ∷ []) ≡ picked bs xs
picked_unpush [] xs y p = absurd (cc)
picked_unpush (true ∷ bs) [] y p = absurd (cc)
picked_unpush (false ∷ bs) [] y p = picked_none bs
picked_unpush (true ∷ bs) (x ∷ xs) y p = ap (λ zs. x ∷ zs) (picked_unpush bs xs y p)
picked_unpush (false ∷ bs) (x ∷ xs) y p = picked_unpush bs xs y p

pub picked_map : {X Y : Type 0} (f : X → Y) (bs : List Bool) (xs : List X)
    → picked bs (map f xs) ≡ map f (picked bs xs)
picked_map f [] xs = refl
picked_map f (b ∷ bs) [] = refl
picked_map f (true ∷ bs) (x ∷ xs) = ap (λ ys. f x ∷ ys) (picked_map f bs xs)
picked_map f (false ∷ bs) (x ∷ xs) = picked_map f bs xs

pub picked_few : {X : Type 0} (bs : List Bool) (xs : List X) → length (picked bs xs) ≤ length xs
picked_few [] xs = le_refl (length xs)
picked_few (b ∷ bs) [] = omega arith
picked_few (true ∷ bs) (x ∷ xs) = let tail = picked_few bs xs in omega (arith, tail)
picked_few (false ∷ bs) (x ∷ xs) = let tail = picked_few bs xs in omega (arith, tail)

pub picked_all : {X : Type 0} (P : X → Type 0) (bs : List Bool) (xs : List X) → All P xs → All P (picked bs xs)
picked_all P [] xs h = h
picked_all P (b ∷ bs) [] h = h
picked_all P (true ∷ bs) (x ∷ xs) h =
    All-cons P x (picked bs xs) (All-head P x xs h) (picked_all P bs xs (All-tail P x xs h))
picked_all P (false ∷ bs) (x ∷ xs) h = picked_all P bs xs (All-tail P x xs h)

-- what passes a test
test_picks : {X : Type 0} (test : X → Bool) (b : Bool) (x : X) (xs : List X) → test x ≡ b
    → picked (b ∷ map test xs) (x ∷ xs) ≡ filter test (x ∷ xs)
    → picked (map test (x ∷ xs)) (x ∷ xs) ≡ filter test (x ∷ xs)
test_picks test b x xs e h = subst (λ c. picked (c ∷ map test xs) (x ∷ xs) ≡ filter test (x ∷ xs)) (sym e) h

pub picked_filter : {X : Type 0} (test : X → Bool) (xs : List X) → picked (map test xs) xs ≡ filter test xs
picked_filter test [] = refl
picked_filter test (x ∷ xs) =
    let rest = picked_filter test xs in
    elim (true_or (test x)) [
      | inl p ↦ test_picks test true x xs p (rw p (ap (λ ys. x ∷ ys) rest))
      | inr p ↦ test_picks test false x xs p (rw p rest)
    ]

passed_one : {X : Type 0} (b : Bool) (bs : List Bool) (test : X → Bool) (y : X) (xs : List X) (s : ℕ) → test y ≡ b
    → place bs s ≡ length (filter test xs) → place (b ∷ bs) (suc s) ≡ length (filter test (y ∷ xs))
passed_one true bs test y xs s e h = ap suc h ∙ sym (ap length (let in' : filter test (y ∷ xs) ≡ y ∷ filter test xs = rw e refl in in'))
passed_one false bs test y xs s e h = h ∙ sym (ap length (let out' : filter test (y ∷ xs) ≡ filter test xs = rw e refl in out'))

-- the place of an item that passes is how many before it do
pub passed_first : {X : Type 0} (test : X → Bool) (xs : List X) (s : ℕ) (x : X) → slice_get xs s ≡ Some x
    → place (map test xs) s ≡ length (filter test (take s xs))
passed_first test [] s x e = absurd (cc)
passed_first test (y ∷ xs) zero x e = refl
passed_first test (y ∷ xs) (suc s) x e =
    let rest = passed_first test xs s x e in
    passed_one (test y) (map test xs) test y (take s xs) s refl rest

pub picked_at : {X : Type 0} (test : X → Bool) (xs : List X) (s : ℕ) (x : X) → slice_get xs s ≡ Some x
    → is_picked (map test xs) s ≡ test x
picked_at test [] s x e = absurd (cc)
picked_at test (y ∷ xs) zero x e = let same : y ≡ x = cc in ap test same
picked_at test (y ∷ xs) (suc s) x e = picked_at test xs s x e

-- what holds wherever an item is found holds of all
pub all_from : {X : Type 0} (P : X → Type 0) (xs : List X)
    → ((s : ℕ) (x : X) → slice_get xs s ≡ Some x → P x) → All P xs
all_from P [] h = All-nil P
all_from P (x ∷ xs) h = All-cons P x xs (h zero x refl) (all_from P xs (λ s y e. h (suc s) y e))

-- the items of two lists, one behind the other
pub get_first : {X : Type 0} (xs ys : List X) (s : ℕ) (x : X) → slice_get xs s ≡ Some x
    → slice_get (xs ++ ys) s ≡ Some x
get_first [] ys s x e = absurd (cc)
get_first (z ∷ xs) ys zero x e = e
get_first (z ∷ xs) ys (suc s) x e = get_first xs ys s x e

pub set_first : {X : Type 0} (xs ys : List X) (s : ℕ) (x y : X) → slice_get xs s ≡ Some x
    → slice_set (xs ++ ys) s y ≡ slice_set xs s y ++ ys
set_first [] ys s x y e = absurd (cc)
set_first (z ∷ xs) ys zero x y e = refl
set_first (z ∷ xs) ys (suc s) x y e = ap (λ zs. z ∷ zs) (set_first xs ys s x y e)

pub get_either : {X : Type 0} (xs ys : List X) (s : ℕ) (x : X) → slice_get (xs ++ ys) s ≡ Some x
    → (slice_get xs s ≡ Some x) ⊎ ((t : ℕ) × (slice_get ys t ≡ Some x))
get_either [] ys s x e = inr (s, e)
get_either (z ∷ xs) ys zero x e = inl e
get_either (z ∷ xs) ys (suc s) x e = get_either xs ys s x e

-- an item in its own place
pub set_same : {X : Type 0} (xs : List X) (s : ℕ) (x : X) → slice_get xs s ≡ Some x → slice_set xs s x ≡ xs
set_same [] s x e = absurd (cc)
set_same (z ∷ xs) zero x e = let same : z ≡ x = cc in ap (λ y. y ∷ xs) (cc)
set_same (z ∷ xs) (suc s) x e = ap (λ zs. z ∷ zs) (set_same xs s x e)

pub map_set : {X Y : Type 0} (f : X → Y) (xs : List X) (s : ℕ) (x : X)
    → map f (slice_set xs s x) ≡ slice_set (map f xs) s (f x)
map_set f [] s x = refl
map_set f (z ∷ xs) zero x = refl
map_set f (z ∷ xs) (suc s) x = ap (λ ys. f z ∷ ys) (map_set f xs s x)
