-- What the seats of an epoch leave.
use Rattle.std.specs.List.{AllByRecursion, Contains}
use Rattle.std.proofs.Common.{suc, ◌++◌, List, [], ◌∷◌, append-nil, map, refl, subst, arith}
use Rattle.serve_hub.specs.Seats.{StreamRest, StreamSeatValue, left_by}

module _ {A : Type 0} (seat : A → StreamSeatValue) where
  -- one rest more is there
  still_there : (rest : StreamRest) (rests : List StreamRest) (xs : List A)
      → AllByRecursion (λ x. Contains rests (left_by (seat x))) xs
      → AllByRecursion (λ x. Contains (rest ∷ rests) (left_by (seat x))) xs
  still_there rest rests [] all = tt
  still_there rest rests (x ∷ xs) all =
      ((suc all.0.0, omega (arith, all.0.1), all.0.2), still_there rest rests xs all.1)

  -- each seat left its own, idle ones behind them or not
  pub left_beside : (idle : List StreamSeatValue) (xs : List A)
      → AllByRecursion (λ x. Contains (map left_by (map seat xs ++ idle)) (left_by (seat x))) xs
  left_beside idle [] = tt
  left_beside idle (x ∷ xs) = (
    (0, omega arith, refl),
    still_there (left_by (seat x)) (map left_by (map seat xs ++ idle)) xs (left_beside idle xs),
  )

  pub all_left_by : (xs : List A) → AllByRecursion (λ x. Contains (map left_by (map seat xs)) (left_by (seat x))) xs
  all_left_by xs =
      subst (λ (seats : List StreamSeatValue). AllByRecursion (λ x. Contains (map left_by seats) (left_by (seat x))) xs)
      (append-nil (map seat xs)) (left_beside [] xs)
