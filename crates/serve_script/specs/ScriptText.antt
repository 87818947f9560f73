use Rattle.std.specs.Prelude.{ℕ, Bool, true, ◌==◌, List, [], ◌∷◌}
use Rattle.y4m_header.specs.Text.{parts}

-- an empty part at the end is no line
abbrev pub without_empty_end : List (List ℕ) → List (List ℕ)
without_empty_end [] = []
without_empty_end ([] ∷ []) = []
without_empty_end (line ∷ more) = line ∷ without_empty_end more

-- the lines of a script, each ended by a line feed, which the last one may lack; a carriage return is a byte
-- like any other
abbrev pub script_lines : List ℕ → List (List ℕ)
script_lines text = without_empty_end (parts 10 text)

-- an empty line and a line that begins with '#' do nothing
abbrev pub is_silent : List ℕ → Bool
is_silent [] = true
is_silent (first ∷ more) = first == 35

-- the words of a line, between single spaces: another space makes an empty word
abbrev pub words : List ℕ → List (List ℕ)
words line = parts 32 line
