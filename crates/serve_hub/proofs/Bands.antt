-- The bands that a journal tells of a worker, in either order.
use Rattle.std.proofs.Common.{ℕ, ◌≡◌, List, [], ◌∷◌, reverse, sum_by, refl, ◌∙◌, ap, arith}
use Rattle.std.proofs.lemmas.List.{reverse-append}
use Rattle.std.proofs.lemmas.List.Sums.{sum_by-cons, sum_by_push}
use Rattle.serve_hub.specs.declared.entry.Entry.{Entry}
use Rattle.serve_hub.specs.Journal.{bands_of}

sum_reversed : {X : Type 0} (f : X → ℕ) (xs : List X) → sum_by f (reverse xs) ≡ sum_by f xs
sum_reversed f [] = refl
sum_reversed f (x ∷ xs) =
    let turned = ap (sum_by f) (reverse-append (x ∷ []) xs) ∙ sum_by_push f (reverse xs) x in
    omega (arith, turned, sum_reversed f xs, sum_by-cons f x xs)

pub bands_reversed : (w : ℕ) (past : List Entry) → bands_of w (reverse past) ≡ bands_of w past
bands_reversed w past = sum_reversed _ past
