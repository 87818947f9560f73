-- What contracts inside the crate say of the streams of a session that come and go.
use Rattle.std.specs.Prelude.{ℕ, ◌+◌, ◌≡◌, ◌≤◌, ◌<◌, ◌++◌, ◌⊎◌, ⊤, All, Bool, true, false, List, []}
use Rattle.std.specs.Prelude.{◌∷◌, Option, Some}
use Rattle.std.specs.Prelude.{None, IfSome, IsFalse, if◌then◌else◌, length, map, slice_get, slice_set}
use Rattle.std.specs.List.{AllByRecursion, AllZip}
use Rattle.std.specs.Vec.{vec_capacity, vec_len}
use Rattle.cbs_account.specs.declared.limits.TheConstants.{MOST_STREAMS}
use Rattle.serve_core.specs.declared.refusal.Refusal.TheVariants as cores
use Rattle.serve_core.specs.declared.setup.SetupError.{SetupError}
use Rattle.serve_core.specs.declared.setup.SetupError.TheVariants as setups
use Rattle.serve_core.specs.Schedule.{HasStream, ScheduleValue}
use Rattle.serve_core.specs.Setup.{IsSetup, setup_of}
use Rattle.serve_hub.specs.declared.entry.Act.{Act}
use Rattle.serve_hub.specs.declared.refusal.Refusal.{Refusal}
use Rattle.serve_hub.specs.declared.refusal.Refusal.TheVariants.{Core}
use Rattle.serve_hub.specs.Ends.{AreStreamsOf, EndedValue, IsCharged, IsStreamOf}
use Rattle.serve_hub.specs.Seats.{StreamRest, StreamSeatValue, left_by}
use Rattle.serve_client.specs.Clients.{AllowsStop, offers_in}
use Rattle.serve_client.specs.Streams.{StandsAt, StreamValue, is_waiting, stream_stop}
use Rattle.serve_work.specs.declared.live.guests.Guest.{Guest}
use Rattle.serve_work.specs.declared.live.guests.Interval.{Interval}
use Rattle.serve_work.specs.declared.live.opening.FirstStream.{FirstStream}
use Rattle.serve_work.specs.declared.live.opening.Hall.{Hall}
use Rattle.serve_work.specs.History.{EpochValue, IsGoneOn, IsHistory, IsLeftBy, OpensBehind, Terms}
use Rattle.serve_work.specs.History.{epoch_of, given_up, left_at}
use Rattle.serve_work.specs.Intervals.{ArePlacesFor, HasNoCalls}
use Rattle.serve_work.specs.Live.{HadNumbers, HasLeft, IsBehind, IsRequest, IsSeatFor}
use Rattle.serve_work.specs.Live.{Waiting, acts_by, numbered, start_with}
use Rattle.serve_work.specs.SessionInside.{HeldValue, held_at}

-- where the stream of this request stands with its seat where an epoch opens behind these: the seat has
-- offered no frame
pub record Begins (terms : Terms) (times : ℕ → Type 0) (epochs : List EpochValue) (opening : ScheduleValue)
    (w : Waiting) (stream : StreamValue) (seat : StreamSeatValue) : Type 0 where
  pub is_request : IsRequest w.request
  pub first : StreamSeatValue
  pub is_new : IsSeatFor w.request.spec first
  pub numbers : List ℕ
  pub had : HadNumbers terms w numbers epochs
  pub behind : IsBehind terms w.request.spec numbers epochs opening seat.number
  pub stands : StandsAt stream (start_with w.request first) (acts_by numbers epochs) seat
  pub no_offers : offers_in seat.calls.list ≡ 0
  pub no_moments : seat.moments ≡ None
  pub stop : IfSome (stream_stop stream) (AllowsStop times)

-- and where the latest of them was left here, perhaps before the released streams were taken out
pub record Stood (terms : Terms) (times : ℕ → Type 0) (epochs : List EpochValue) (last : ScheduleValue)
    (w : Waiting) (stream : StreamValue) (seat : StreamSeatValue) : Type 0 where
  pub is_request : IsRequest w.request
  pub first : StreamSeatValue
  pub is_new : IsSeatFor w.request.spec first
  pub past : List Act
  pub number : ℕ
  pub before : List ℕ
  pub had : HadNumbers terms w (number ∷ before) epochs
  pub behind : IsBehind terms w.request.spec (number ∷ before) epochs last seat.number
  pub stands : StandsAt stream (start_with w.request first) past seat
  pub calls : past ++ seat.calls.list ≡ acts_by (number ∷ before) epochs
  pub left : HasLeft epochs (left_by (numbered number seat))
  pub stop : IfSome (stream_stop stream) (AllowsStop times)

-- the stream of a request that waits, with its seat, where an epoch opens, and where it was left
abbrev pub HasTurn : (terms : Terms) (times : ℕ → Type 0) (epochs : List EpochValue) (opening : ScheduleValue)
    → Waiting → HeldValue → Type 0
HasTurn terms times epochs opening w held = Begins terms times epochs opening w held.stream held.seat

abbrev pub HadTurn : (terms : Terms) (times : ℕ → Type 0) (epochs : List EpochValue) (last : ScheduleValue)
    → Waiting → HeldValue → Type 0
HadTurn terms times epochs last w held = Stood terms times epochs last w held.stream held.seat

-- the stream of a request that waits, with its seat of the epoch that ended, and of the next one
abbrev pub IsGuestAt : {R W : Type 0} (terms : Terms) (times : ℕ → Type 0) (epochs : List EpochValue)
    (last : ScheduleValue) → Guest R W → StreamSeatValue → Waiting → Type 0
IsGuestAt terms times epochs last guest seat w =
    (guest.ticket ≡ w.ticket) × Stood terms times epochs last w guest.stream seat

abbrev pub IsGuestIn : {R W : Type 0} (terms : Terms) (times : ℕ → Type 0) (epochs : List EpochValue)
    (opening : ScheduleValue) → Guest R W → StreamSeatValue → Waiting → Type 0
IsGuestIn terms times epochs opening guest seat w =
    (guest.ticket ≡ w.ticket) × Begins terms times epochs opening w guest.stream seat

-- each place has a seat, and each stream a request, in the same order
abbrev pub AllAt : {A B C : Type 0} (P : A → B → C → Type 0) → List (Option A) → List B → List C → Type 0
AllAt P [] seats [] = ⊤
AllAt P [] seats (w ∷ ws) = ⊥
AllAt P (guest ∷ guests) [] ws = ⊥
AllAt P (None ∷ guests) (seat ∷ seats) ws = AllAt P guests seats ws
AllAt P (Some guest ∷ guests) (seat ∷ seats) [] = ⊥
AllAt P (Some guest ∷ guests) (seat ∷ seats) (w ∷ ws) = P guest seat w × AllAt P guests seats ws

-- no stream is left
abbrev pub AreAllTold : {R W : Type 0} → List (Option (Guest R W)) → Type 0
AreAllTold guests = All (λ guest. guest ≡ None) guests

-- no item is left at a place that isn't marked
abbrev pub AreToldBut : {A : Type 0} → List Bool → List (Option A) → Type 0
AreToldBut {A} marks items = (k : ℕ) (item : Option A) → slice_get marks k ≡ Some false
    → slice_get items k ≡ Some item → item ≡ None

-- the items that are marked, by their places
abbrev pub at_marks : {A : Type 0} → List Bool → List A → List A
at_marks marks [] = []
at_marks [] (x ∷ xs) = []
at_marks (mark ∷ marks) (x ∷ xs) = if mark then x ∷ at_marks marks xs else at_marks marks xs

-- the streams with the tickets of their requests
abbrev pub guests_of : {R W : Type 0} → List ℕ → List StreamValue → List (Option (Guest R W))
guests_of (ticket ∷ tickets) (stream ∷ streams) =
    Some (record { ticket = ticket; stream = stream }) ∷ guests_of tickets streams
guests_of tickets streams = []

-- idle seats have no streams
abbrev pub nobody : {R W : Type 0} → List StreamSeatValue → List (Option (Guest R W))
nobody [] = []
nobody (seat ∷ idle) = None ∷ nobody idle

-- the same tickets by number, with that of a stream that has this number, unless it was told
abbrev pub with_ticket : {R W : Type 0} → (number : ℕ) → Option (Guest R W) → List (Option ℕ)
    → List (Option ℕ)
with_ticket number None tickets = tickets
with_ticket number (Some guest) tickets = slice_set tickets number (Some guest.ticket)

abbrev pub with_ticket_of : {R W : Type 0} → Option StreamRest → Option (Guest R W) → List (Option ℕ)
    → List (Option ℕ)
with_ticket_of None guest tickets = tickets
with_ticket_of (Some rest) guest tickets = with_ticket rest.number guest tickets

-- and with those of the streams whose seats were handed over in this order
abbrev pub with_tickets : {R W : Type 0} → List StreamRest → List (Option (Guest R W)) → List (Option ℕ)
    → List (Option ℕ)
with_tickets (rest ∷ rests) (guest ∷ guests) tickets =
    with_tickets rests guests (with_ticket rest.number guest tickets)
with_tickets rests guests tickets = tickets

-- the clock of what is left of a hub went on to one of these times, and so it was told. Nothing else of it
-- changes
pub record GoesOn (stands : List EpochValue → List Waiting → Type 0) (times : ℕ → Type 0)
    (whose : List (Option ℕ)) (epochs : List EpochValue) (ws : List Waiting) (old new : EndedValue)
    : Type 0 where
  pub clock : IsGoneOn times old.book.desk new.book.desk
  pub told : stands (left_at new.book.desk (epoch_of old whose) ∷ epochs) ws
  pub limit : new.book.limit ≡ old.book.limit
  pub streams : new.streams ≡ old.streams

-- the streams of a session behind these epochs, by the seats of the latest, and their requests, which wait
pub record AreGuests {R W : Type 0} (terms : Terms) (times : ℕ → Type 0) (epochs : List EpochValue)
    (ended : EndedValue) (ws : List Waiting) (guests : List (Option (Guest R W))) : Type 0 where
  pub history : IsHistory terms times epochs
  pub left_here : IsLeftBy epochs ended.book.desk
  pub seats : List StreamSeatValue
  pub rests : ended.streams ≡ map left_by seats
  pub few : length seats ≤ MOST_STREAMS
  pub kept : AreStreamsOf ended.book.desk seats
  pub charges : All IsCharged ended.book.desk.streams
  pub of_limit : ended.book.limit ≡ terms.limit
  pub each : AllAt (IsGuestAt terms times epochs ended.book.desk) guests seats ws

-- the same, whatever epochs and requests these are
abbrev pub HaveWaited : {R W : Type 0} (stands : List EpochValue → List Waiting → Type 0) (terms : Terms)
    (times : ℕ → Type 0) → EndedValue → List (Option (Guest R W)) → Type 0
HaveWaited stands terms times ended guests =
    (epochs : List EpochValue) × (ws : List Waiting) × stands epochs ws
    × AreGuests terms times epochs ended ws guests

abbrev pub IsLiveInterval : {R W : Type 0} (stands : List EpochValue → List Waiting → Type 0) (terms : Terms)
    (times : ℕ → Type 0) → Interval R W → Type 0
IsLiveInterval stands terms times now = HaveWaited stands terms times now.ended now.guests.items

-- these epochs, behind which all streams that are left are perhaps given up
abbrev pub ended_so : (gives_up : Bool) → List EpochValue → List EpochValue
ended_so true epochs = given_up epochs
ended_so false epochs = epochs

-- the stream may be told behind these epochs: it is over, or given up
abbrev pub MayTell : (epochs told : List EpochValue) → StreamValue → Type 0
MayTell epochs told stream = (IsFalse (is_waiting stream) × (told ≡ epochs)) ⊎ (told ≡ given_up epochs)

-- the stream whose seat was handed over at this place can be told, and its request is this one
pub record CanTell {R W : Type 0} (terms : Terms) (times : ℕ → Type 0) (epochs : List EpochValue)
    (ended : EndedValue) (place : ℕ) (guest : Guest R W) (w : Waiting) : Type 0 where
  pub history : IsHistory terms times epochs
  pub ticket : guest.ticket ≡ w.ticket
  pub seat : StreamSeatValue
  pub stood : Stood terms times epochs ended.book.desk w guest.stream seat
  pub here : slice_get ended.streams place ≡ Some (left_by seat)
  pub kept : HasStream ended.book.desk seat.number (IsStreamOf seat)
  pub charges : All IsCharged ended.book.desk.streams

-- the memory of an epoch has a place for each stream that there can be
pub record HasPlaces {L R W : Type 0} (hall : Hall L R W) : Type 0 where
  pub turns : MOST_STREAMS ≤ vec_capacity hall.room.turns
  pub tickets : MOST_STREAMS ≤ vec_capacity hall.tickets
  pub idle : MOST_STREAMS ≤ vec_capacity hall.idle
  pub places : ArePlacesFor MOST_STREAMS hall.room.places
  pub no_guests : hall.guests.items ≡ []
  pub guests : MOST_STREAMS ≤ vec_capacity hall.guests

-- one stream more has its turn
pub record TakesSeat {L R W : Type 0} (ticket : ℕ) (held : HeldValue) (old new : Hall L R W) : Type 0 where
  pub places : HasPlaces new
  pub turns : new.room.turns.items ≡ old.room.turns.items ++ Some held ∷ []
  pub len : vec_len new.room.turns ≡ vec_len old.room.turns + 1
  pub tickets : new.tickets.items ≡ old.tickets.items ++ ticket ∷ []
  pub many : vec_len new.tickets ≡ vec_len old.tickets + 1
  pub few : vec_len old.room.turns + vec_len old.idle < MOST_STREAMS
  pub idle : new.idle ≡ old.idle

-- the streams with their seats, and the tickets of their requests
abbrev pub helds_of : {R W : Type 0} → List StreamSeatValue → List (Option (Guest R W)) → List HeldValue
helds_of (seat ∷ seats) (Some guest ∷ guests) = held_at seat guest.stream ∷ helds_of seats guests
helds_of (seat ∷ seats) (None ∷ guests) = helds_of seats guests
helds_of seats guests = []

abbrev pub tickets_of : {R W : Type 0} → List StreamSeatValue → List (Option (Guest R W)) → List ℕ
tickets_of (seat ∷ seats) (Some guest ∷ guests) = guest.ticket ∷ tickets_of seats guests
tickets_of (seat ∷ seats) (None ∷ guests) = tickets_of seats guests
tickets_of seats guests = []

-- the streams of an epoch that opens behind these, with their seats, and their requests, which wait. The seats
-- without a stream have made no call
pub record AreSeated {L R W : Type 0} (terms : Terms) (times : ℕ → Type 0) (epochs : List EpochValue)
    (opening : ScheduleValue) (ws : List Waiting) (hall : Hall L R W) : Type 0 where
  pub history : IsHistory terms times epochs
  pub opens : OpensBehind terms epochs opening
  pub idle : AllByRecursion HasNoCalls hall.idle.items
  pub places : HasPlaces hall
  pub few : vec_len hall.room.turns + vec_len hall.idle ≤ MOST_STREAMS
  pub helds : List HeldValue
  pub turns : hall.room.turns.items ≡ map Some helds
  pub tickets : hall.tickets.items ≡ map (λ w. w.ticket) ws
  pub each : AllZip (HasTurn terms times epochs opening) ws helds

-- the first stream of a hub is that of this request, which was given behind these epochs
pub record IsFirst {R W : Type 0} (contents : W → Option (List ℕ)) (failures : W → ℕ) (terms : Terms)
    (epochs : List EpochValue) (w : Waiting) (stream : FirstStream R W) : Type 0 where
  pub given : length epochs ≡ w.since
  pub one_by_one : terms.together ≡ None
  pub ticket : stream.ticket ≡ w.ticket
  pub is_request : IsRequest w.request
  pub setup : stream.setup ≡ setup_of terms.workers terms.quantum (w.request.spec ∷ [])
  pub is_setup : IsSetup stream.setup
  pub reader : stream.reader ≡ w.request.reader
  pub before : contents stream.writer ≡ w.request.before
  pub failures_of : failures stream.writer ≡ w.request.failures

-- what the fault of a setup is to its only stream
abbrev pub refusal_of : SetupError → Refusal
refusal_of setups.BadLimits = Core cores.BadLimits
refusal_of (setups.BadBandwidth s) = Core cores.BadBandwidth
refusal_of (setups.Overload s) = Core cores.Overload
