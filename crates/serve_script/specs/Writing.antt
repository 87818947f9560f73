-- Text that is written, or a front of it.
use Rattle.std.specs.Prelude.{ℕ, ◌≤◌, List, length, take, Option, Result, MatchResult}
use Rattle.std.specs.Io.KnownBytes.{Appends}

-- bytes went out from the front of the text, or all of it
pub record AppendsFront (old new : Option (List ℕ)) (text : List ℕ) : Type 0 where
  pub n : ℕ
  pub within : n ≤ length text
  pub front : Appends old new (take n text)

-- all of the text went out, or where that failed a front of it
abbrev pub Writes : {T E : Type 0} → Option (List ℕ) → Option (List ℕ) → List ℕ → Result T E → Type 0
Writes old new text result = MatchResult result (λ _. Appends old new text) (λ _. AppendsFront old new text)
