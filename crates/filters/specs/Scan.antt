-- What is left of numbers that are read from the left, and lists of so many numbers.
use Rattle.std.specs.Prelude.{ℕ, List, [], ◌∷◌, Option, Some, None}
use Rattle.filters.specs.OpsText.{numbers}

abbrev pub numbers_left : Option (List ℕ) → Option (List ℕ)
numbers_left None = Some []
numbers_left (Some rest) = numbers rest

abbrev pub only_number : List ℕ → Option ℕ
only_number (n ∷ []) = Some n
only_number _ = None

abbrev pub only_two : List ℕ → Option (ℕ × ℕ)
only_two (m ∷ n ∷ []) = Some (m, n)
only_two _ = None

abbrev pub only_four : List ℕ → Option (ℕ × ℕ × ℕ × ℕ)
only_four (a ∷ b ∷ c ∷ d ∷ []) = Some (a, b, c, d)
only_four _ = None
