-- What a session did from epoch to epoch.
use Rattle.std.specs.Prelude.{ℕ, ◌+◌, ◌≡◌, ◌≤◌, ◌<◌, ◌⊎◌, ◌++◌, ⊤, Bool, true, false, List, [], ◌∷◌}
use Rattle.std.specs.Prelude.{IsFalse, IsSome, IsTrue, None, Option, Some, length}
use Rattle.std.specs.List.{AllByRecursion}
use Rattle.cbs_account.specs.declared.limits.TheConstants.{LAST_MOMENT}
use Rattle.serve_core.specs.Bare.{measures_any, is_any_image}
use Rattle.serve_core.specs.Desk.{desk_state}
use Rattle.serve_core.specs.Reached.{IsReached}
use Rattle.serve_core.specs.Retired.{retired_schedule}
use Rattle.serve_core.specs.Schedule.{ScheduleValue, opened_schedule}
use Rattle.serve_core.specs.Setup.{IsSetup, Setup, StreamSpec, setup_of}
use Rattle.serve_core.specs.Ticked.{at_moment}
use Rattle.serve_hub.specs.declared.entry.Entry.{Entry}
use Rattle.serve_hub.specs.Books.{specs_of}
use Rattle.serve_hub.specs.Ends.{AreFree, EndedValue}
use Rattle.serve_hub.specs.Journal.{IsJournal}
use Rattle.serve_hub.specs.Seats.{StreamRest}
use Rattle.serve_client.specs.Workers.{HaveSpent}
use Rattle.serve_work.specs.Entries.{AreTimed, open_streams}

-- what a session serves by: how many workers it has, the most bands of a lease, the most entries of an epoch's
-- journal, and what its streams are, where all begin together
pub record Terms : Type 0 where
  pub workers : ℕ
  pub quantum : ℕ
  pub limit : ℕ
  pub together : Option (List StreamSpec)

-- where streams come and go
abbrev pub terms_of : (workers quantum limit : ℕ) → Terms
terms_of workers quantum limit =
    record { workers = workers; quantum = quantum; limit = limit; together = None }

-- where those of a setup begin together
abbrev pub terms_with : Setup → (limit : ℕ) → Terms
terms_with setup limit =
    record { workers = setup.workers; quantum = setup.quantum; limit = limit; together = Some setup.streams }

-- an epoch: where it opened, its journal, the latest entry first, where it ended, and how it was left, from
-- where the next one goes on; what the seats of its streams left; of which request the stream of each number
-- was, by its ticket, unless it was told before; and whether all streams that were left were given up then
pub record EpochValue : Type 0 where
  pub opening : ScheduleValue
  pub journal : List Entry
  pub last : ScheduleValue
  pub gone : ScheduleValue
  pub rests : List StreamRest
  pub whose : List (Option ℕ)
  pub is_given_up : Bool

-- an epoch that ended just now
abbrev pub epoch_of : EndedValue → (whose : List (Option ℕ)) → EpochValue
epoch_of ended whose = record {
  opening = ended.book.opening;
  journal = ended.book.past;
  last = ended.book.desk;
  gone = ended.book.desk;
  rests = ended.streams;
  whose = whose;
  is_given_up = false;
}

-- the journals of these epochs, one behind the other, the latest entry first
abbrev pub journal_of : List EpochValue → List Entry
journal_of [] = []
journal_of (epoch ∷ before) = epoch.journal ++ journal_of before

-- the same epoch, left like this
abbrev pub left_at : ScheduleValue → EpochValue → EpochValue
left_at gone epoch = record epoch { gone = gone }

-- and left when the clock went on from its end to this moment, unless it was past that
abbrev pub gone_to : (at : ℕ) → EpochValue → EpochValue
gone_to at epoch = left_at (at_moment at epoch.last) epoch

-- the same epochs, behind the latest of which all streams that are left are given up
abbrev pub given_up : List EpochValue → List EpochValue
given_up [] = []
given_up (epoch ∷ before) = record epoch { is_given_up = true } ∷ before

-- that is so
abbrev pub AreGivenUp : List EpochValue → Type 0
AreGivenUp [] = ⊥
AreGivenUp (epoch ∷ before) = IsTrue epoch.is_given_up

-- the clock went on from here once, at most
abbrev pub IsGone : (last gone : ScheduleValue) → Type 0
IsGone last gone = (gone ≡ last) ⊎ ((at : ℕ) × (at ≤ LAST_MOMENT) × (gone ≡ at_moment at last))

-- and to one of these times, unless it was past that, or that is past the last moment
abbrev pub IsGoneOn : (times : ℕ → Type 0) (last gone : ScheduleValue) → Type 0
IsGoneOn times last gone =
    (at : ℕ) × times at
    × (((at ≤ LAST_MOMENT) × (gone ≡ at_moment at last)) ⊎ ((LAST_MOMENT < at) × (gone ≡ last)))

-- a legal transcript of some setup led to where the epoch opened. From there its journal leads to where it
-- ended; each lease was settled with its whole grant, and the journal has room for a close of each open
-- stream. Then the clock went on
pub record IsEpochBy (terms : Terms) (epoch : EpochValue) : Type 0 where
  pub reached : IsReached measures_any is_any_image (desk_state epoch.opening)
  pub leads : IsJournal (specs_of epoch.last) (desk_state epoch.opening) epoch.journal (desk_state epoch.last)
  pub free : AreFree epoch.last.workers
  pub spent : HaveSpent (length epoch.last.workers) epoch.journal
  pub fits : length epoch.journal + open_streams (desk_state epoch.last) ≤ terms.limit
  pub goes_on : IsGone epoch.last epoch.gone

-- each entry of a frame, of whichever stream, is at one of these times
abbrev pub IsAtTimes : (times : ℕ → Type 0) → EpochValue → Type 0
IsAtTimes times epoch = (s : ℕ) → s < length epoch.last.streams
    → AreTimed times s (specs_of epoch.last) (desk_state epoch.opening) epoch.journal

-- and to one of them the clock went on then; or it stayed, where the session's streams begin together
abbrev pub IsLeftAt : Terms → (times : ℕ → Type 0) → EpochValue → Type 0
IsLeftAt terms times epoch =
    IsGoneOn times epoch.last epoch.gone ⊎ (IsSome terms.together × (epoch.gone ≡ epoch.last))

pub record IsTimed (terms : Terms) (times : ℕ → Type 0) (epoch : EpochValue) : Type 0 where
  pub each : IsAtTimes times epoch
  pub goes_on : IsLeftAt terms times epoch

-- a hub opens here, for streams of these specs
pub record OpensFor (terms : Terms) (specs : List StreamSpec) (opening : ScheduleValue) : Type 0 where
  pub is_setup : IsSetup (setup_of terms.workers terms.quantum specs)
  pub opened : opening ≡ opened_schedule (setup_of terms.workers terms.quantum specs)

-- behind these epochs a hub may open for these: for one stream, or behind none for all that begin together
abbrev pub MayOpenFor : (together : Option (List StreamSpec)) → List EpochValue → List StreamSpec → Type 0
MayOpenFor None before specs = length specs ≡ 1
MayOpenFor (Some all) before specs = (before ≡ []) × (specs ≡ all)

-- a hub opens here behind these epochs
abbrev pub OpensHub : Terms → List EpochValue → (opening : ScheduleValue) → Type 0
OpensHub terms before opening =
    (specs : List StreamSpec) × OpensFor terms specs opening × MayOpenFor terms.together before specs

-- so the latest of these epochs was left, perhaps without the streams that were released then, and the others
-- weren't given up
abbrev pub IsLeftBy : List EpochValue → ScheduleValue → Type 0
IsLeftBy [] opening = ⊥
IsLeftBy (epoch ∷ before) opening =
    IsFalse epoch.is_given_up × ((opening ≡ epoch.gone) ⊎ (opening ≡ retired_schedule epoch.gone))

-- an epoch opens here behind these: in a new hub, or as the latest of them was left
abbrev pub OpensBehind : Terms → List EpochValue → ScheduleValue → Type 0
OpensBehind terms before opening = OpensHub terms before opening ⊎ IsLeftBy before opening

-- these are the epochs of a session, the latest first
abbrev pub AreEpochsBy : Terms → List EpochValue → Type 0
AreEpochsBy terms [] = ⊤
AreEpochsBy terms (epoch ∷ before) =
    IsEpochBy terms epoch × OpensBehind terms before epoch.opening × AreEpochsBy terms before

-- each frame of them was offered at one of these times, and behind each of them the clock went on to one
pub record IsHistory (terms : Terms) (times : ℕ → Type 0) (epochs : List EpochValue) : Type 0 where
  pub epochs_are : AreEpochsBy terms epochs
  pub timed : AllByRecursion (IsTimed terms times) epochs

-- an epoch ended behind these
pub record HasEnded (terms : Terms) (times : ℕ → Type 0) (epochs : List EpochValue) (epoch : EpochValue)
    : Type 0 where
  pub before : IsHistory terms times epochs
  pub opens : OpensBehind terms epochs epoch.opening
  pub is_epoch : IsEpochBy terms epoch
  pub timed : IsAtTimes times epoch
