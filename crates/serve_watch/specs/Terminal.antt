-- Orders to a terminal.
use Rattle.std.specs.Prelude.{ℕ, List, ◌∷◌, ◌++◌, codes, decimal}

-- behind it, the cursor stands so many lines higher
abbrev pub up : ℕ → List ℕ
up lines = 27 ∷ codes "[" ++ decimal lines ++ codes "A"

-- what stands behind the cursor in its line is cleared
abbrev pub cleared : List ℕ
cleared = 27 ∷ codes "[K"

-- what stands behind the cursor is cleared, in its line and in all below
abbrev pub cleared_below : List ℕ
cleared_below = 27 ∷ codes "[J"

-- from here on what doesn't fit into a row stands on no further one
abbrev pub unwrapped : List ℕ
unwrapped = 27 ∷ codes "[?7l"

-- from here on it does
abbrev pub wrapped : List ℕ
wrapped = 27 ∷ codes "[?7h"
