-- A list is cut at the first of its elements that passes a test.
use Rattle.std.proofs.Common.{◌≡◌, ℕ, ◌+◌, ◌<◌, ◌≤◌, Bool, cond, ltb, List, [], ◌∷◌, length, take, drop, None}
use Rattle.std.proofs.Common.{Some, refl, sym, ap, ◌∙◌, arith, suc, inl, inr}
use Rattle.std.specs.List.{position, position_or_len, before_first, slice_split, onto_first}
use Rattle.std.proofs.lemmas.Bool.{cases_Bool}
use Rattle.std.proofs.lemmas.Bool.Decides.{nat_tests}
use Rattle.std.proofs.lemmas.List.{take_all}
use Rattle.std.proofs.lemmas.List.Splits.{slice_split-cons_no, slice_split_first}

module _ (p : ℕ → Bool) where
  some_place : (n len m : ℕ) → cond (ltb n len) (Some n) None ≡ Some m → (n < len) × (n ≡ m)
  some_place n len m e = grind (arith, nat_tests)

  no_place : (n len : ℕ) → cond (ltb n len) (Some n) None ≡ None → len ≤ n
  no_place n len e = grind (arith, nat_tests)

  pub take-position : (xs : List ℕ) (n : ℕ) → position p xs ≡ Some n → take n xs ≡ before_first p xs
  take-position xs n e = ap (λ k. take k xs) (sym (some_place (position_or_len p xs) (length xs) n e).1)

  pub all-position : (xs : List ℕ) → position p xs ≡ None → xs ≡ before_first p xs
  all-position xs e = sym (take_all (position_or_len p xs) xs (no_place (position_or_len p xs) (length xs) e))

  pub split_all : (xs : List ℕ) → length xs ≤ position_or_len p xs → slice_split p xs ≡ xs ∷ []
  split_all [] h = refl
  split_all (x ∷ xs) h = elim (cases_Bool (p x)) [
    | inl e ↦ absurd (let none : suc (length xs) ≤ 0 = rw e at h in omega arith)
    | inr e ↦
        let more : suc (length xs) ≤ 1 + position_or_len p xs = rw e at h in
        slice_split-cons_no p x xs e ∙ ap (onto_first x) (split_all xs (omega arith))
  ]

  pub parts-none : (xs : List ℕ) → position p xs ≡ None → slice_split p xs ≡ xs ∷ []
  parts-none xs e = split_all xs (no_place (position_or_len p xs) (length xs) e)

  pub parts-some : (xs : List ℕ) (n : ℕ) → position p xs ≡ Some n
      → slice_split p xs ≡ take n xs ∷ slice_split p (drop (n + 1) xs)
  parts-some xs n e =
      let place = some_place (position_or_len p xs) (length xs) n e in
      slice_split_first p xs 0 place.0 ∙ ap (λ k. take k xs ∷ slice_split p (drop (k + 1) xs)) place.1
