-- A line of a stream, and the tags on it.
use Rattle.std.specs.Prelude.{◌≢◌, ℕ, ◌≤◌, List, [], ◌∷◌, length, drop, Option, Some, None, All}
use Rattle.std.specs.Prelude.{if◌then◌else◌, ◌==◌}
use Rattle.std.specs.List.{filter_map, before_first}
use Rattle.y4m_header.specs.declared.limits.TheConstants.{LONGEST_LINE}
use Rattle.y4m_header.specs.Text.{parts}

-- the byte behind each line
abbrev pub line_feed : ℕ
line_feed = 10

-- the byte before each tag
abbrev pub space : ℕ
space = 32

-- no byte of a line is a line feed, and a line is not too long
pub record IsLine (line : List ℕ) : Type 0 where
  pub no_feed : All (λ byte. byte ≢ line_feed) line
  pub short : length line ≤ LONGEST_LINE

-- the parts between the spaces
abbrev pub pieces : List ℕ → List (List ℕ)
pieces line = parts space line

-- the first piece
abbrev pub word : List ℕ → List ℕ
word line = before_first (λ byte. byte == space) line

-- what a piece says, if it is a tag with this letter; an empty piece is no tag
abbrev pub tag_value : ℕ → List ℕ → Option (List ℕ)
tag_value letter [] = None
tag_value letter (first ∷ value) = if first == letter then Some value else None

-- the values of a line's tags with this letter, in order
abbrev pub values : ℕ → List ℕ → List (List ℕ)
values letter line = filter_map (tag_value letter) (drop 1 (pieces line))
