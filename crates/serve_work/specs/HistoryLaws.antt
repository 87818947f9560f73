-- What follows for the epochs of a session.
use Rattle.std.specs.Prelude.{ℕ, ◌*◌, ◌≡◌, ◌≤◌, ◌⊎◌, ◌++◌, List, [], ◌∷◌}
use Rattle.std.specs.List.{AllByRecursion}
use Rattle.edf_pool.specs.Earliest.{IsEarliest}
use Rattle.serve_core.specs.Bare.{Blank}
use Rattle.serve_core.specs.Desk.{desk_state}
use Rattle.serve_core.specs.Laws.{demand}
use Rattle.serve_core.specs.Leads.{state_from}
use Rattle.serve_core.specs.Life.{released}
use Rattle.serve_core.specs.Retired.{retired_schedule}
use Rattle.serve_core.specs.Schedule.{ScheduleValue}
use Rattle.serve_core.specs.States.{State, StreamState, deadlines}
use Rattle.serve_hub.specs.declared.entry.Act.TheVariants.{Leased}
use Rattle.serve_hub.specs.declared.entry.Entry.{Entry}
use Rattle.serve_hub.specs.declared.entry.Seat.TheVariants.{Worker}
use Rattle.serve_hub.specs.Books.{specs_of}
use Rattle.serve_hub.specs.Journal.{entry_of, transcript_of}
use Rattle.serve_work.specs.History.{AreEpochsBy, EpochValue, OpensHub, Terms}

-- the state of an epoch behind these entries, the latest first
abbrev pub state_behind : EpochValue → (earlier : List Entry) → State Blank
state_behind epoch earlier =
    state_from (desk_state epoch.opening)
    (transcript_of (specs_of epoch.last) (desk_state epoch.opening) earlier)

-- each lease went to a stream with an earliest deadline of those that were ready then
abbrev pub LeasesEarliest : EpochValue → Type 0
LeasesEarliest epoch = (later earlier : List Entry) (w s number grant : ℕ)
    → epoch.journal ≡ later ++ entry_of (Worker w) (Leased s number grant) ∷ earlier
    → IsEarliest (deadlines (state_behind epoch earlier)) s

abbrev pub EarliestLaw : Type 0
EarliestLaw =
    (terms : Terms) (epochs : List EpochValue) → AreEpochsBy terms epochs
    → AllByRecursion LeasesEarliest epochs

-- behind each entry, what all streams that are there were charged whose deadline is at most d, from when their
-- hub opened or they were admitted, is at most d for each worker
abbrev pub KeepsDemand : Terms → EpochValue → Type 0
KeepsDemand terms epoch = (later earlier : List Entry) (d : ℕ) → epoch.journal ≡ later ++ earlier
    → demand d (state_behind epoch earlier).streams ≤ d * terms.workers

abbrev pub EpochDemandLaw : Type 0
EpochDemandLaw =
    (terms : Terms) (epochs : List EpochValue) → AreEpochsBy terms epochs
    → AllByRecursion (KeepsDemand terms) epochs

-- a hub opens here, and no stream of it was taken out yet
abbrev pub OpensAnew : Terms → List EpochValue → (opening : ScheduleValue)
    → (taken : List (StreamState Blank)) → Type 0
OpensAnew terms before opening taken = OpensHub terms before opening × (taken ≡ [])

-- where an epoch opens behind these, these streams were taken out since its hub opened, each as it was then
abbrev pub WereTakenOut : Terms → List EpochValue → (opening : ScheduleValue)
    → (taken : List (StreamState Blank)) → Type 0
WereTakenOut terms [] opening taken = OpensAnew terms [] opening taken
WereTakenOut terms (epoch ∷ before) opening taken =
    OpensAnew terms (epoch ∷ before) opening taken
    ⊎ (((opening ≡ epoch.gone) × WereTakenOut terms before epoch.opening taken)
    ⊎ ((opening ≡ retired_schedule epoch.gone)
    × ((earlier : List (StreamState Blank)) × WereTakenOut terms before epoch.opening earlier
    × (taken ≡ earlier ++ released (desk_state epoch.gone)))))

abbrev pub TakenOutLaw : Type 0
TakenOutLaw =
    (terms : Terms) (epoch : EpochValue) (before : List EpochValue) → AreEpochsBy terms (epoch ∷ before)
    → (taken : List (StreamState Blank)) × WereTakenOut terms before epoch.opening taken

-- behind each entry, what all the streams were charged that there ever were since the hub opened, those that
-- were taken out too, and whose deadline is at most d, is at most d for each worker
abbrev pub HubDemandLaw : Type 0
HubDemandLaw =
    (terms : Terms) (epoch : EpochValue) (before : List EpochValue) (taken : List (StreamState Blank))
    (later earlier : List Entry) (d : ℕ) → AreEpochsBy terms (epoch ∷ before)
    → WereTakenOut terms before epoch.opening taken → epoch.journal ≡ later ++ earlier
    → demand d (taken ++ (state_behind epoch earlier).streams) ≤ d * terms.workers
