-- Transcripts from any opening state.
use Rattle.std.specs.Prelude.{◌≡◌, ◌↔◌, ⊤, length}
use Rattle.serve_core.specs.Events.{Event, Reply, Transcript, Start, Then, joined}
use Rattle.serve_core.specs.Rules.{Allows, IsLegal}
use Rattle.serve_core.specs.Setup.{ImageRelation, SizeTest}
use Rattle.serve_core.specs.Setup.{Setup}
use Rattle.serve_core.specs.Sound.{Sound}
use Rattle.serve_core.specs.States.{State, state_of, after, opening}

module _ {F G : Type 0} where
  -- what a transcript makes of an opening state
  abbrev pub state_from : State F → Transcript F G → State F
  state_from m Start = m
  state_from m (Then p e r) = after (state_from m p) e r

-- the state of a setup before any event
abbrev pub opening_state : (F G : Type 0) → Setup → State F
opening_state F G setup = state_of setup (opening {F = F} {G = G})

-- a transcript changes neither the quantum nor how many workers there are
abbrev pub UnchangedLaw : (F G : Type 0) → Type 0
UnchangedLaw F G =
    (m : State F) (p : Transcript F G)
    → ((state_from m p).quantum ≡ m.quantum) × (length (state_from m p).workers ≡ length m.workers)

module _ {F G : Type 0} (measures : SizeTest F) (is_image : ImageRelation F G) where
  -- from the opening state on, each reply is one that is right after what came before it
  abbrev pub IsLegalFrom : State F → Transcript F G → Type 0
  IsLegalFrom m Start = ⊤
  IsLegalFrom m (Then p e r) = IsLegalFrom m p × Allows measures is_image (state_from m p) e r

  -- the transcript is legal from the state m on, and leads to the state n
  abbrev pub Leads : State F → Transcript F G → State F → Type 0
  Leads m p n = IsLegalFrom m p × (state_from m p ≡ n)

  -- behind each legal transcript that leads to the state m, the event and its reply are legal, and lead to n
  abbrev pub LeadsOn : State F → Event F → Reply F G → State F → Type 0
  LeadsOn m e r n =
      (setup : Setup) (p : Transcript F G) → IsLegal measures is_image setup p → state_of setup p ≡ m
      → IsLegal measures is_image setup (Then p e r) × (state_of setup (Then p e r) ≡ n)

  -- one more event and its right reply lead a setup's transcript on
  abbrev pub StepLaw : Type 0
  StepLaw =
      (setup : Setup) (p : Transcript F G) (e : Event F) (r : Reply F G) → IsLegal measures is_image setup p
      → Allows measures is_image (state_of setup p) e r
      → IsLegal measures is_image setup (Then p e r)
      × (state_of setup (Then p e r) ≡ after (state_of setup p) e r)

  -- a setup's transcripts are those from the state before any event
  abbrev pub OpeningLaw : Type 0
  OpeningLaw =
      (setup : Setup) (p : Transcript F G)
      → (state_of setup p ≡ state_from (opening_state F G setup) p)
      × (IsLegal measures is_image setup p ↔ IsLegalFrom (opening_state F G setup) p)

  -- what leads on from where a setup's transcript led is, behind it, a setup's transcript
  abbrev pub GoingOnLaw : Type 0
  GoingOnLaw =
      (setup : Setup) (p q : Transcript F G) (n : State F) → IsLegal measures is_image setup p
      → Leads (state_of setup p) q n
      → IsLegal measures is_image setup (joined p q) × (state_of setup (joined p q) ≡ n)

  -- one transcript leads from m to n and another from n to o: the first and then the second lead from m to o
  abbrev pub JoinLaw : Type 0
  JoinLaw = (m n o : State F) (p q : Transcript F G) → Leads m p n → Leads n q o → Leads m (joined p q) o

  -- a legal transcript leads from a sound state to a sound one
  abbrev pub SoundFromLaw : Type 0
  SoundFromLaw = (m n : State F) (p : Transcript F G) → Sound m → Leads m p n → Sound n
