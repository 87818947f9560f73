-- Which of two streams that may be ready comes before the other.
use Rattle.std.specs.Prelude.{ℕ, ◌≡◌, ◌<◌, ◌⊎◌, Bool, IsTrue, Option, Some, None}

-- a stream with this deadline, if it is ready, comes before one with another
abbrev pub ComesBefore : Option ℕ → ℕ → Bool → Type 0
ComesBefore None other is_lower = ⊥
ComesBefore (Some own) other is_lower = (own < other) ⊎ ((own ≡ other) × IsTrue is_lower)
