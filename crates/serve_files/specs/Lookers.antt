-- A lookout's state: what a looker is asked to read, what it is lent, and what it gives back.
use Rattle.std.specs.Prelude.{ℕ, ◌≡◌, Bool, true, false, List, Option, None, Some, Result, IsErr}
use Rattle.std.specs.Io.{StartsWith}
use Rattle.std.specs.Io.KnownBytes.{Keeps}
use Rattle.std.specs.declared.io.Error.{Error}
use Rattle.y4m_stream.specs.declared.wanted.Wanted.{Wanted}
use Rattle.serve_files.specs.declared.lookout.Lent.{Lent}
use Rattle.serve_files.specs.declared.lookout.State.{State}
use Rattle.serve_files.specs.declared.lookout.State.TheVariants as states
use Rattle.serve_files.specs.ReadAhead.{AheadState, HasNone, IsNoFurther, IsReadOf, IsThere, rest_of}

-- it isn't known yet whether reads would wait
abbrev pub is_unknown : {R : Type 0} → State R → Bool
is_unknown (states.Asked ahead wanted) = true
is_unknown (states.Looking wanted) = true
is_unknown other = false

abbrev pub is_looking : {R : Type 0} → State R → Bool
is_looking (states.Looking wanted) = true
is_looking other = false

-- the looker is to read, or to end
abbrev pub has_task : {R : Type 0} → State R → Bool
has_task (states.Asked ahead wanted) = true
has_task states.Over = true
has_task other = false

-- the looker rests where what is wanted is there, and is to read of it else
abbrev pub ReadsOrRests : {R : Type 0} → Wanted → AheadState → State R → Type 0
ReadsOrRests wanted ahead (states.Asked new more) = (new ≡ ahead) × (more ≡ wanted) × ¬ IsThere wanted ahead
ReadsOrRests wanted ahead (states.Resting new) = (new ≡ ahead) × IsThere wanted ahead
ReadsOrRests wanted ahead new = ⊥

-- a looker that rests is asked for what is wanted, and it is answered whether it is to read; any other state stays
abbrev pub Asks : {R : Type 0} → Wanted → Bool → State R → State R → Type 0
Asks wanted answer (states.Resting ahead) new = ReadsOrRests wanted ahead new × (answer ≡ has_task new)
Asks wanted answer old new = (answer ≡ false) × (new ≡ old)

-- this, and nothing else, was asked for, where the looker rested
abbrev pub WasAsked : {R : Type 0} → Wanted → State R → State R → Type 0
WasAsked wanted old new = (answer : Bool) × Asks wanted answer old new

-- the reader is lent with what is asked, and the looker reads then; where nothing is asked the state stays
abbrev pub Lends : {R : Type 0} → Option (Lent R) → State R → State R → Type 0
Lends (Some lent) old new =
    (old ≡ states.Asked lent.ahead lent.wanted) × (new ≡ states.Looking lent.wanted)
    × (lent.before.value ≡ lent.ahead)
Lends None (states.Asked ahead wanted) new = ⊥
Lends None old new = new ≡ old

-- it was read of what is wanted: no byte is lost, there is something to tell, and nothing beyond the frame is held
pub record IsLooked (wanted : Wanted) (old new : AheadState) : Type 0 where
  pub bytes : Keeps (rest_of old) (rest_of new)
  pub held : StartsWith new.held old.held
  pub news : ¬ HasNone new
  pub no_further : IsNoFurther wanted old.held new.held

-- the reader is given back with what was read: the looker rests, or is to read on; where the client is gone the
-- state stays
abbrev pub Settles : {R : Type 0} → AheadState → State R → State R → Type 0
Settles ahead (states.Looking wanted) new = ReadsOrRests wanted ahead new
Settles ahead old new = new ≡ old

-- the client reads of what was read ahead, and nothing is asked any more
abbrev pub ReadsFrom : {R : Type 0} → AheadState → State R → Result ℕ Error → List ℕ → Type 0
ReadsFrom old (states.Resting new) answer buf = IsReadOf old new answer buf
ReadsFrom old new answer buf = ⊥

-- the same where the reader is here; it fails where it isn't
abbrev pub Reads : {R : Type 0} → State R → State R → Result ℕ Error → List ℕ → Type 0
Reads (states.Resting ahead) new answer buf = ReadsFrom ahead new answer buf
Reads (states.Asked ahead wanted) new answer buf = ReadsFrom ahead new answer buf
Reads old new answer buf = IsErr answer × (new ≡ old)
