-- A relay's state: what a carrier is asked to write, what it is lent, and what it gives back.
use Rattle.std.specs.Prelude.{ℕ, ◌≡◌, ◌≢◌, Bool, true, false, List, take, Option, None, Some, IsSomeAnd}
use Rattle.std.specs.Prelude.{◌⊎◌, Result, IsErr}
use Rattle.std.specs.Option.{option_transpose}
use Rattle.std.specs.Io.{StartsWith}
use Rattle.std.specs.Io.KnownBytes.{Keeps}
use Rattle.std.specs.declared.io.Error.{Error}
use Rattle.serve_files.specs.declared.load.Answer.TheVariants as answers
use Rattle.serve_files.specs.declared.load.TheConstants.{MOST}
use Rattle.serve_files.specs.declared.relay.Lent.{Lent}
use Rattle.serve_files.specs.declared.relay.State.{State}
use Rattle.serve_files.specs.declared.relay.State.TheVariants as states
use Rattle.serve_files.specs.Relays.{AppendsHanded, IsTold, LoadState}

-- bytes are on their way
abbrev pub is_busy : {W : Type 0} → State W → Bool
is_busy (states.Asked load) = true
is_busy states.Carrying = true
is_busy other = false

-- the carrier is to write, or to end
abbrev pub has_task : {W : Type 0} → State W → Bool
has_task (states.Asked load) = true
has_task states.Over = true
has_task other = false

-- a front of these bytes is handed over, since what the last write answered was told
pub record IsHanded (buf : List ℕ) (old new : LoadState) : Type 0 where
  pub told : old.answer ≡ answers.Awaited
  pub handed : new.handed ≡ take MOST buf
  pub contents : new.contents ≡ old.contents
  pub awaited : new.answer ≡ answers.Awaited

-- the carrier is to write a front of these bytes; it rests where what its last write answered is still to be told
abbrev pub WritesOrRests : {W : Type 0} → List ℕ → LoadState → State W → Type 0
WritesOrRests buf load (states.Asked new) = IsHanded buf load new
WritesOrRests buf load (states.Resting new) = (new ≡ load) × (load.answer ≢ answers.Awaited)
WritesOrRests buf load new = ⊥

-- a carrier that rests is asked to write, and it is answered whether it is to; any other state stays
abbrev pub Asks : {W : Type 0} → List ℕ → Bool → State W → State W → Type 0
Asks buf answer (states.Resting load) new = WritesOrRests buf load new × (answer ≡ has_task new)
Asks buf answer old new = (answer ≡ false) × (new ≡ old)

-- these bytes, and no others, were asked to be written, where the carrier rested
abbrev pub WereAsked : {W : Type 0} → List ℕ → State W → State W → Type 0
WereAsked buf old new = (answer : Bool) × Asks buf answer old new

-- the writer is lent with what is asked, and the carrier writes then; where nothing is asked the state stays
abbrev pub Lends : {W : Type 0} → Option (Lent W) → State W → State W → Type 0
Lends (Some lent) old new =
    (old ≡ states.Asked lent.load) × (new ≡ states.Carrying) × (lent.before.value ≡ lent.load)
Lends None (states.Asked load) new = ⊥
Lends None old new = new ≡ old

-- what was handed over was written once, and that is answered
pub record IsCarried (old new : LoadState) : Type 0 where
  pub handed : new.handed ≡ old.handed
  pub bytes : AppendsHanded old.contents new.contents old.handed new.answer

-- the writer is given back with what its write answered; where the client is gone the state stays
abbrev pub Settles : {W : Type 0} → LoadState → State W → State W → Type 0
Settles load states.Carrying new = new ≡ states.Resting load
Settles load old new = new ≡ old

-- what the write of a front of these bytes answered is told, once; none while they are on their way, and a fault
-- where there is no writer
abbrev pub Answers : {W : Type 0} → List ℕ → Option (Result ℕ Error) → State W → State W → Type 0
Answers buf told (states.Resting load) new =
    (StartsWith buf load.handed → IsTold load.answer told)
    × (new ≡ states.Resting (record load { answer = answers.Awaited }))
Answers buf told (states.Asked load) new = (told ≡ None) × (new ≡ states.Asked load)
Answers buf told states.Carrying new = (told ≡ None) × (new ≡ states.Carrying)
Answers buf told old new = IsSomeAnd told IsErr × (new ≡ old)

-- what a client is told that waited for a while
abbrev pub Tells : {W : Type 0} → List ℕ → Result (Option ℕ) Error → State W → State W → Type 0
Tells buf result old new =
    (told : Option (Result ℕ Error)) × Answers buf told old new × (result ≡ option_transpose told)

-- what one is told that waited until its bytes were written; a fault where there were none of its own
abbrev pub TellsAtOnce : {W : Type 0} → List ℕ → Result ℕ Error → State W → State W → Type 0
TellsAtOnce buf told old new = Answers buf (Some told) old new ⊎ (IsErr told × Answers buf None old new)

-- a writer that is here is flushed, and nothing else changes; it fails where the writer isn't here
abbrev pub Flushes : {W T E : Type 0} → Result T E → State W → State W → Type 0
Flushes answer (states.Resting old) (states.Resting new) =
    Keeps old.contents new.contents × (new.handed ≡ old.handed) × (new.answer ≡ old.answer)
Flushes answer (states.Resting old) new = ⊥
Flushes answer old new = IsErr answer × (new ≡ old)
