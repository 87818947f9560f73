-- Lists whose items go over, one by one, into another list.
use Rattle.std.proofs.Common.{ℕ, suc, ◌+◌, ◌≡◌, All, List, [], ◌∷◌, ◌++◌, length, map, sum_by, refl, ap, subst, arith}
use Rattle.std.proofs.lemmas.List.Sums.{sum_by-cons}

-- one item more went over
pub one_moved : {X Y : Type 0} (f : X → Y) (ys : List Y) (x : X) (xs : List X)
    → (ys ++ f x ∷ []) ++ map f xs ≡ ys ++ map f (x ∷ xs)
one_moved f [] x xs = refl
one_moved f (y ∷ ys) x xs = ap (λ zs. y ∷ zs) (one_moved f ys x xs)

-- all went over
pub all_moved : {X Y : Type 0} (f : X → Y) (ys : List Y) (xs : List X) → length xs ≡ 0 → ys ++ map f xs ≡ ys
all_moved f [] [] e = refl
all_moved f (y ∷ ys) [] e = ap (λ zs. y ∷ zs) (all_moved f ys [] e)
all_moved f ys (x ∷ xs) e = absurd (omega (arith, e))

-- a sum with one item more
pub sum_more : {X : Type 0} (f : X → ℕ) (xs : List X) (x : X) → sum_by f (xs ++ x ∷ []) ≡ sum_by f xs + f x
sum_more f [] x = omega (arith, sum_by-cons f x [])
sum_more f (y ∷ ys) x = omega (arith, sum_by-cons f y (ys ++ x ∷ []), sum_by-cons f y ys, sum_more f ys x)

-- what holds of all holds of all behind the first
pub All-behind : {X : Type 0} (P : X → Type 0) (xs ys : List X) (x : X) → xs ≡ x ∷ ys → All P xs → All P ys
All-behind P xs ys x e all k d l = subst (All P) e all (suc k) d (omega (arith, l))
