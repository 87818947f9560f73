-- A machine's whole life: transcripts one after another, and the released streams taken out between them.
use Rattle.std.specs.Prelude.{ℕ, ◌*◌, ◌≤◌, ⊤, List, [], ◌++◌, filter}
use Rattle.serve_core.specs.Events.{Transcript}
use Rattle.serve_core.specs.Laws.{demand}
use Rattle.serve_core.specs.Leads.{IsLegalFrom, opening_state, state_from}
use Rattle.serve_core.specs.Released.{is_released}
use Rattle.serve_core.specs.Retired.{AreFree, retired}
use Rattle.serve_core.specs.Setup.{ImageRelation, IsSetup, Setup, SizeTest}
use Rattle.serve_core.specs.States.{State, StreamState}

pub data Life (F G : Type 0) : Type 0 where
  -- before any event
  Opened : Life F G
  -- and then this transcript
  WentOn : (before : Life F G) (past : Transcript F G) → Life F G
  -- and then the released streams were taken out
  Retired : (before : Life F G) → Life F G

-- the streams that are released
abbrev pub released : {F : Type 0} → State F → List (StreamState F)
released m = filter (λ x. is_released m.clock x) m.streams

module _ {F G : Type 0} where
  -- where a life leads
  abbrev pub state_in : Setup → Life F G → State F
  state_in setup Opened = opening_state F G setup
  state_in setup (WentOn before past) = state_from (state_in setup before) past
  state_in setup (Retired before) = retired (state_in setup before)

  -- the streams that were taken out in it, each as it was then
  abbrev pub taken_out : Setup → Life F G → List (StreamState F)
  taken_out setup Opened = []
  taken_out setup (WentOn before past) = taken_out setup before
  taken_out setup (Retired before) = taken_out setup before ++ released (state_in setup before)

  -- all the streams that there ever were
  abbrev pub ever : Setup → Life F G → List (StreamState F)
  ever setup life = taken_out setup life ++ (state_in setup life).streams

module _ {F G : Type 0} (measures : SizeTest F) (is_image : ImageRelation F G) where
  -- each transcript is legal from where the life before it led, and no worker holds a lease where streams are
  -- taken out
  abbrev pub IsLegalLife : Setup → Life F G → Type 0
  IsLegalLife setup Opened = ⊤
  IsLegalLife setup (WentOn before past) =
      IsLegalLife setup before × IsLegalFrom measures is_image (state_in setup before) past
  IsLegalLife setup (Retired before) = IsLegalLife setup before × AreFree (state_in setup before).workers

  -- of all the streams that there ever were, those that were taken out too, what is due by d is at most d for
  -- each worker
  abbrev pub LifeDemandLaw : Type 0
  LifeDemandLaw =
      (setup : Setup) (life : Life F G) (d : ℕ) → IsSetup setup → IsLegalLife setup life
      → demand d (ever setup life) ≤ d * setup.workers
