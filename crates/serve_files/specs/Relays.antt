-- What a carrier writes, and what came of that.
use Rattle.std.specs.Prelude.{ℕ, ◌≡◌, ◌≤◌, ⊤, List, length, take, Option, None, Some, Result, Ok, Err}
use Rattle.std.specs.Io.KnownBytes.{Appends, Keeps}
use Rattle.std.specs.declared.io.Error.{Error}
use Rattle.serve_files.specs.declared.load.Answer.{Answer}
use Rattle.serve_files.specs.declared.load.Answer.TheVariants as answers

-- the bytes that were handed over last, what their writer holds, where that is known, and what their write
-- answered, once it has and until that was told
pub record LoadState : Type 0 where
  pub handed : List ℕ
  pub contents : Option (List ℕ)
  pub answer : Answer

-- no write took more bytes than it was handed
abbrev pub IsBounded : List ℕ → Answer → Type 0
IsBounded handed (answers.Taken n) = n ≤ length handed
IsBounded handed answer = ⊤

-- a write appended the bytes that it answered, and is answered
abbrev pub AppendsHanded : (before after : Option (List ℕ)) → List ℕ → Answer → Type 0
AppendsHanded before after handed answers.Awaited = ⊥
AppendsHanded before after handed (answers.Taken n) = Appends before after (take n handed)
AppendsHanded before after handed (answers.Fault error) = Keeps before after

-- what is told of it
abbrev pub IsTold : Answer → Option (Result ℕ Error) → Type 0
IsTold answers.Awaited told = told ≡ None
IsTold (answers.Taken n) told = told ≡ Some (Ok n)
IsTold (answers.Fault error) told = told ≡ Some (Err error)
