use Rattle.std.specs.Prelude.{◌≡◌, ℕ, ◌≤◌, List, slice_get, Option, Some}

-- stream s is ready, with the deadline d; a stream that isn't ready has none in the list
abbrev pub IsReady : List (Option ℕ) → ℕ → ℕ → Type 0
IsReady deadlines s d = slice_get deadlines s ≡ Some (Some d)

-- earliest deadline first: no ready stream has an earlier deadline, and none with the same a lower number
pub record IsEarliest (deadlines : List (Option ℕ)) (s : ℕ) : Type 0 where
  pub deadline : ℕ
  pub ready : IsReady deadlines s deadline
  pub earliest : (t e : ℕ) → IsReady deadlines t e → deadline ≤ e
  pub lowest : (t : ℕ) → IsReady deadlines t deadline → s ≤ t

abbrev pub NoneReady : List (Option ℕ) → Type 0
NoneReady deadlines = (s d : ℕ) → ¬ IsReady deadlines s d
