-- Pieces, joined by spaces.
use Rattle.std.proofs.Common.{◌≡◌, ℕ, List, [], ◌∷◌, ◌++◌, sym, ap}
use Rattle.std.specs.List.{join_with_byte}
use Rattle.std.proofs.lemmas.List.{append-nil}

-- each piece behind a space
abbrev pub spaced : List (List ℕ) → List ℕ
spaced [] = []
spaced (piece ∷ pieces) = 32 ∷ piece ++ spaced pieces

pub join-cons : (first : List ℕ) (more : List (List ℕ))
    → join_with_byte 32 (first ∷ more) ≡ first ++ spaced more
join-cons first [] = sym (append-nil first)
join-cons first (second ∷ more) = ap (λ (t : List ℕ). first ++ (32 ∷ t)) (join-cons second more)
