-- What is told of the streams of a session that come and go.
use Rattle.std.specs.Prelude.{ℕ, IsFalse, IsTrue, ◌≡◌, ◌≤◌, ◌⊎◌, ◌++◌, false, List, [], ◌∷◌, Option}
use Rattle.std.specs.Prelude.{None, Some, length, reverse, slice_get}
use Rattle.std.specs.List.{AllByRecursion, Contains}
use Rattle.cbs_account.specs.declared.limits.TheConstants.{MOST_ENTRIES, MOST_QUANTUM, MOST_WORKERS}
use Rattle.y4m_stream.specs.declared.reader.Phase.TheVariants.{Open}
use Rattle.y4m_stream.specs.Reader.{IsOfHeader, ReaderState}
use Rattle.serve_core.specs.declared.refusal.Refusal.TheVariants as cores
use Rattle.serve_core.specs.Retired.{new_number, retired_schedule, stays}
use Rattle.serve_core.specs.Schedule.{HasStream, ScheduleValue}
use Rattle.serve_core.specs.Setup.{StreamSpec}
use Rattle.serve_core.specs.Streams.{KeptStream}
use Rattle.serve_hub.specs.declared.entry.Act.{Act}
use Rattle.serve_hub.specs.declared.entry.Seat.TheVariants.{Stream}
use Rattle.serve_hub.specs.declared.refusal.Refusal.{Refusal}
use Rattle.serve_hub.specs.declared.refusal.Refusal.TheVariants.{Core}
use Rattle.serve_hub.specs.Calls.{AllowsAdmission}
use Rattle.serve_hub.specs.Ends.{acts_of}
use Rattle.serve_hub.specs.Seats.{StreamRest, StreamSeatValue, left_by, spec_told}
use Rattle.serve_client.specs.Clients.{AllowsStop, ClientIsDone, ClientStart, collections_in, offers_in}
use Rattle.serve_client.specs.Rests.{IsRestOf, RestValue}
use Rattle.serve_client.specs.Streams.{ServedValue}
use Rattle.serve_work.specs.declared.request.Answer.{Answer}
use Rattle.serve_work.specs.declared.request.Answer.TheVariants as answers
use Rattle.serve_work.specs.declared.request.Request.{Request}
use Rattle.serve_work.specs.declared.request.Standing.{Standing}
use Rattle.serve_work.specs.History.{AreGivenUp, EpochValue, IsHistory, OpensBehind, OpensFor, Terms}
use Rattle.serve_work.specs.Sessions.{IsServed, IsStreamTold}

-- a stream that is to be served: what it is served with, its reader, and what is known of its writer
pub record RequestValue : Type 0 where
  pub spec : StreamSpec
  pub reader : ReaderState
  pub before : Option (List ℕ)
  pub failures : ℕ

abbrev pub request_of : {R W : Type 0} (contents : W → Option (List ℕ)) (failures : W → ℕ) → Request R W
    → RequestValue
request_of contents failures request = record {
  spec = request.spec;
  reader = request.reader;
  before = contents request.writer;
  failures = failures request.writer;
}

-- a request that was given and isn't answered yet, by its number, and how many epochs there were when it was
-- given
pub record Waiting : Type 0 where
  pub ticket : ℕ
  pub since : ℕ
  pub request : RequestValue

abbrev pub waiting_of : {R W : Type 0} (contents : W → Option (List ℕ)) (failures : W → ℕ) (since : ℕ)
    → Request R W → Waiting
waiting_of contents failures since request = record {
  ticket = request.ticket;
  since = since;
  request = request_of contents failures request;
}

-- nothing was read of its frames, and its header has the size of its chain
pub record IsRequest (request : RequestValue) : Type 0 where
  pub header : IsOfHeader request.reader.header request.spec.chain.geometry
  pub is_open : request.reader.phase ≡ Open

-- the first seat of a stream of this spec, whatever its number
pub record IsSeatFor (spec : StreamSpec) (seat : StreamSeatValue) : Type 0 where
  pub told : spec_told seat ≡ spec
  pub accepted : seat.accepted ≡ 0
  pub kept : seat.kept ≡ []
  pub is_open : seat.is_closed ≡ false
  pub before : seat.before ≡ 0
  pub torn : seat.torn ≡ None

-- the same seat under this number
abbrev pub numbered : ℕ → StreamSeatValue → StreamSeatValue
numbered n seat = record seat { number = n }

abbrev pub start_with : RequestValue → StreamSeatValue → ClientStart
start_with request seat = record {
  seat = seat;
  reader = request.reader;
  before = request.before;
  failures = request.failures;
}

-- what the stream did that had these numbers in the latest of these epochs, the latest first
abbrev pub acts_by : List ℕ → List EpochValue → List Act
acts_by [] epochs = []
acts_by (number ∷ numbers) [] = []
acts_by (number ∷ numbers) (epoch ∷ epochs) =
    acts_by numbers epochs ++ acts_of (Stream number) (reverse epoch.journal)

-- a stream that had the old number where an epoch was left has this one where another opens: the same, or
-- where the released streams were taken out, of which it was none, its number then
abbrev pub IsKept : (gone : ScheduleValue) (old : ℕ) (opening : ScheduleValue) (number : ℕ) → Type 0
IsKept gone old opening number =
    ((opening ≡ gone) × (number ≡ old))
    ⊎ ((opening ≡ retired_schedule gone) × IsTrue (stays gone old) × (number ≡ new_number gone old))

-- a stream of this spec is new in the epoch that opens here: its hub opens for it, or it has a number that no
-- stream has there
abbrev pub IsNewIn : Terms → StreamSpec → (opening : ScheduleValue) (number : ℕ) → Type 0
IsNewIn terms spec opening number =
    (OpensFor terms (spec ∷ []) opening × (number ≡ 0)) ⊎ (length opening.streams ≤ number)

-- the stream that had these numbers in the latest of these epochs has this one where another opens: it is new
-- there, or was there, and keeps its number, but for streams that were released. None goes on from an epoch
-- behind which all were given up
abbrev pub IsBehind : Terms → StreamSpec → List ℕ → List EpochValue → (opening : ScheduleValue) (number : ℕ)
    → Type 0
IsBehind terms spec [] epochs opening number = IsNewIn terms spec opening number
IsBehind terms spec (old ∷ numbers) [] opening number = ⊥
IsBehind terms spec (old ∷ numbers) (epoch ∷ epochs) opening number =
    IsFalse epoch.is_given_up × IsKept epoch.gone old opening number

-- the stream is served with this: its chain, its share, its places and its frames
abbrev pub IsOfSpec : StreamSpec → KeptStream → Type 0
IsOfSpec spec stream = stream.state.spec ≡ spec

-- the stream of this request was in each of these epochs since it was given, and served with what it asked
-- for. It had these numbers there, the latest first, and was new in the first
abbrev pub HadNumbers : Terms → Waiting → List ℕ → List EpochValue → Type 0
HadNumbers terms w [] epochs = length epochs ≡ w.since
HadNumbers terms w (number ∷ numbers) [] = ⊥
HadNumbers terms w (number ∷ numbers) (epoch ∷ epochs) =
    (slice_get epoch.whose number ≡ Some (Some w.ticket))
    × HasStream epoch.last number (IsOfSpec w.request.spec)
    × IsBehind terms w.request.spec numbers epochs epoch.opening number
    × HadNumbers terms w numbers epochs

-- each of these requests has a stream in the latest of these epochs. An epoch opens for one stream alone or as
-- the one before was left: so two that wait where it ends share a hub since the later one was given
abbrev pub AreAllIn : Terms → List EpochValue → List Waiting → Type 0
AreAllIn terms epochs ws =
    AllByRecursion (λ w. (number : ℕ) × (before : List ℕ) × HadNumbers terms w (number ∷ before) epochs) ws

-- at the end of the latest of these epochs a stream of this number is there, and so it is
abbrev pub HasAtEnd : List EpochValue → ℕ → (KeptStream → Type 0) → Type 0
HasAtEnd [] number P = ⊥
HasAtEnd (epoch ∷ epochs) number P = HasStream epoch.last number P

-- a seat of the latest of these epochs left this
abbrev pub HasLeft : List EpochValue → StreamRest → Type 0
HasLeft [] rest = ⊥
HasLeft (epoch ∷ epochs) rest = Contains epoch.rests rest

-- these are the session's epochs until now, and the stream of this request was served with what it asked for
-- in those since it was given, by its calls in their journals. It is told as it stood at the end of the last, in
-- which its seat left just this. A clock that gives these times allows its stop
pub record IsServedSince (terms : Terms) (times : ℕ → Type 0) (epochs : List EpochValue) (w : Waiting)
    (served : ServedValue) : Type 0 where
  pub history : IsHistory terms times epochs
  pub seat : StreamSeatValue
  pub is_new : IsSeatFor w.request.spec seat
  pub is_served : IsServed (start_with w.request seat) served
  pub number : ℕ
  pub before : List ℕ
  pub numbers : HadNumbers terms w (number ∷ before) epochs
  pub calls : is_served.past ++ is_served.seat.calls.list ≡ acts_by (number ∷ before) epochs
  pub stream : HasAtEnd epochs number (IsStreamTold served)
  pub left : HasLeft epochs (left_by (numbered number is_served.seat))
  pub stop : AllowsStop times served.outcome.stop

-- as the stream stands, it is shown
pub record IsStandingOf (standing : Standing) (stream : KeptStream) : Type 0 where
  pub accepted : standing.accepted ≡ stream.state.accepted
  pub finished : standing.finished ≡ stream.state.finished
  pub collected : standing.collected ≡ stream.state.collected
  pub charged : standing.charged ≡ stream.state.charged
  pub budget : standing.budget ≡ stream.state.account.budget
  pub deadline : standing.deadline ≡ stream.state.account.deadline

-- these are the session's epochs until now. Something is left to do of the stream of this request, which was
-- served with what it asked for in those since it was given, by its calls in their journals, and is shown as
-- it stood at the end of the last. As many of its frames are shown as accepted as these calls offered, and as
-- collected as they collected. Its seat left just this at that end
pub record IsStanding (terms : Terms) (times : ℕ → Type 0) (epochs : List EpochValue) (w : Waiting)
    (standing : Standing) : Type 0 where
  pub history : IsHistory terms times epochs
  pub first : StreamSeatValue
  pub is_new : IsSeatFor w.request.spec first
  pub past : List Act
  pub seat : StreamSeatValue
  pub rest : RestValue
  pub left : IsRestOf (start_with w.request first) past seat rest
  pub number : ℕ
  pub before : List ℕ
  pub numbers : HadNumbers terms w (number ∷ before) epochs
  pub calls : past ++ seat.calls.list ≡ acts_by (number ∷ before) epochs
  pub accepted : standing.accepted ≡ offers_in (past ++ seat.calls.list)
  pub collected : standing.collected ≡ collections_in (past ++ seat.calls.list)
  pub stream : HasAtEnd epochs number (IsStandingOf standing)
  pub has_left : HasLeft epochs (left_by (numbered number seat))

-- how many entries an epoch's journal may have: a close of each of 64 streams, an admission of each, and a
-- lease with its settlement
pub record IsLiveLimit (limit : ℕ) : Type 0 where
  pub least : 130 ≤ limit
  pub most : limit ≤ MOST_ENTRIES

-- how a session may be formed: how many workers it has, and the most bands of a lease
pub record IsForm (workers quantum : ℕ) : Type 0 where
  pub some_workers : 1 ≤ workers
  pub most_workers : workers ≤ MOST_WORKERS
  pub some_quantum : 1 ≤ quantum
  pub most_quantum : quantum ≤ MOST_QUANTUM

-- why a stream of this spec isn't served
abbrev pub AllowsRefusal : StreamSpec → Refusal → Type 0
AllowsRefusal spec e = AllowsAdmission spec e ⊎ (e ≡ Core cores.NoMemory)

-- a stream of this spec is new in an epoch that opens behind these: its hub opens for it, where no other request
-- waits, or it has a number that no stream has there
pub record IsAdmitted (terms : Terms) (epochs : List EpochValue) (others : List Waiting) (spec : StreamSpec)
    : Type 0 where
  pub opening : ScheduleValue
  pub opens : OpensBehind terms epochs opening
  pub number : ℕ
  pub is_new : (OpensFor terms (spec ∷ []) opening × (number ≡ 0) × (others ≡ []))
      ⊎ (length opening.streams ≤ number)

-- the stream's client came to its own end, and no image is left at its seat; or all streams that were left
-- were given up
abbrev pub IsNotCut : (terms : Terms) (times : ℕ → Type 0) (epochs : List EpochValue) (w : Waiting)
    (served : ServedValue) → IsServedSince terms times epochs w served → Type 0
IsNotCut terms times epochs w served since =
    AreGivenUp epochs
    ⊎ ClientIsDone (start_with w.request since.seat) since.is_served.past since.is_served.seat served.outcome

-- what is told of a request, behind these epochs: that the stream isn't served, where none of them was told
-- since it was given, and its reader and writer come back as they were; or what it came to, and that it wasn't
-- cut while others go on
abbrev pub IsAnswer : {R W : Type 0} (contents : W → Option (List ℕ)) (failures : W → ℕ) (terms : Terms)
    (times : ℕ → Type 0) (epochs : List EpochValue) → Waiting → Answer R W → Type 0
IsAnswer contents failures terms times epochs w (answers.Refused e reader writer) =
    (length epochs ≡ w.since) × AllowsRefusal w.request.spec e × (reader ≡ w.request.reader)
    × (contents writer ≡ w.request.before) × (failures writer ≡ w.request.failures)
IsAnswer contents failures terms times epochs w (answers.Ended served) =
    (since : IsServedSince terms times epochs w served) × IsNotCut terms times epochs w served since
