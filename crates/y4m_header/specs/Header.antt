-- What clauses see of a header.
use Rattle.std.specs.Prelude.{ℕ, List}
use Rattle.y4m_header.specs.declared.chroma.Chroma.{Chroma}

-- a header line, and the size and form that it states
pub record HeaderValue : Type 0 where
  pub line : List ℕ
  pub width : ℕ
  pub height : ℕ
  pub chroma : Chroma
