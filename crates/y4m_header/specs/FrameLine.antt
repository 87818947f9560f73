-- The line before each frame.
use Rattle.std.specs.Prelude.{◌≡◌, ℕ, List, codes}
use Rattle.y4m_header.specs.Line.{IsLine, word}

-- a frame line, without its line feed
pub record IsFrameLine (line : List ℕ) : Type 0 where
  pub is_line : IsLine line
  pub is_word : word line ≡ codes "FRAME"
