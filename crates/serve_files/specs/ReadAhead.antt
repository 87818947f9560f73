-- What was read of a reader before it was asked for.
use Rattle.std.specs.Prelude.{ℕ, ◌≡◌, ◌≢◌, ◌+◌, ◌<◌, ◌≤◌, ◌⊎◌, ⊤, List, [], ◌++◌, length, take, Option}
use Rattle.std.specs.Prelude.{Result, MatchResult, IsOk}
use Rattle.std.specs.Io.KnownBytes.{Consumes, IsAtEnd, Keeps, ReadConsumes, prepend_known}
use Rattle.std.specs.declared.io.Error.{Error}
use Rattle.y4m_stream.specs.declared.wanted.Wanted.{Wanted}
use Rattle.y4m_stream.specs.Wanted.{EndsFrame, IsEnough}
use Rattle.serve_files.specs.declared.ahead.Told.{Told}
use Rattle.serve_files.specs.declared.ahead.Told.TheVariants as told

-- the bytes that are held, and for how many there is room
pub record StockState : Type 0 where
  pub held : List ℕ
  pub room : ℕ

-- the bytes that were read ahead and not yet taken, for how many there is room, what the reader has left, and
-- what its last read told where it gave none
pub record AheadState : Type 0 where
  pub held : List ℕ
  pub room : ℕ
  pub left : Option (List ℕ)
  pub told : Told

-- a read gave bytes, which are held behind the others, or told the end; or it failed
abbrev pub FillsFrom : {E : Type 0} → (before after : Option (List ℕ)) → Result ℕ E → (old new : List ℕ)
    → Type 0
FillsFrom before after answer old new =
    MatchResult answer
    (λ n. (read : List ℕ) × Consumes before after read × (new ≡ old ++ read) × (length read ≡ n)
    × (n ≡ 0 → IsAtEnd after))
    (λ _. Keeps before after × (new ≡ old))

-- the same, of the bytes at the front of a slice
abbrev pub FillsSlice : {E : Type 0} → (before after : Option (List ℕ)) → Result ℕ E → (old slice : List ℕ)
    → Type 0
FillsSlice before after answer old slice =
    MatchResult answer
    (λ n. (read : List ℕ) × Consumes before after read × (take (length old + n) slice ≡ old ++ read)
    × (length read ≡ n) × (n ≡ 0 → IsAtEnd after))
    (λ _. Keeps before after × (take (length old) slice ≡ old))

-- all that is to be taken
abbrev pub rest_of : AheadState → Option (List ℕ)
rest_of ahead = prepend_known ahead.held ahead.left

-- an end that was told is one
abbrev pub IsTold : Told → Option (List ℕ) → Type 0
IsTold told.End left = IsAtEnd left
IsTold told.Nothing left = ⊤
IsTold (told.Fault error) left = ⊤

-- nothing was read that was not yet taken
abbrev pub HasNone : AheadState → Type 0
HasNone ahead = (ahead.held ≡ []) × (ahead.told ≡ told.Nothing)

-- these bytes are all that is wanted, or a fault stands in them
abbrev pub HasWanted : Wanted → List ℕ → Type 0
HasWanted wanted held =
    ((wanted.line ≡ 0) × (wanted.behind ≤ length held))
    ⊎ ((0 < wanted.line) × IsEnough wanted.line wanted.behind held)

-- the end or a fault was told, or all that is wanted is held, or as much as there is room for
abbrev pub IsThere : Wanted → AheadState → Type 0
IsThere wanted ahead =
    (ahead.told ≢ told.Nothing) ⊎ (HasWanted wanted ahead.held ⊎ (ahead.room ≤ length ahead.held))

-- behind bytes that were held no more are held than are wanted: none beyond the frame
pub record IsNoFurther (wanted : Wanted) (old new : List ℕ) : Type 0 where
  pub behind : wanted.line ≡ 0 → length old < length new → length new ≤ wanted.behind
  pub line : 0 < wanted.line → (more : List ℕ) → EndsFrame wanted.line wanted.behind (old ++ more)
      → length new ≤ length (old ++ more)

-- a read takes of the bytes that are held; where none are, it answers what was told, once
pub record IsReadOf (old new : AheadState) (answer : Result ℕ Error) (buf : List ℕ) : Type 0 where
  pub bytes : ReadConsumes (rest_of old) (rest_of new) answer buf
  pub held : old.held ≢ [] → IsOk answer
  pub told : old.held ≡ [] → old.told ≢ told.Nothing → 0 < length buf
      → HasNone new × MatchResult answer (λ count. (count ≡ 0) × (old.told ≡ told.End))
      (λ error. old.told ≡ told.Fault error)
