-- Journals of accepted calls: which events their entries stand for.
use Rattle.std.specs.Prelude.{ℕ, ◌+◌, ◌≡◌, ◌<◌, ⊤, nat_eq, nat_lt, Bool, true, List, [], ◌∷◌, ◌++◌, length}
use Rattle.std.specs.Prelude.{slice_get, sum_by, Option, Some, None, IfSome, IsSomeAnd, if◌then◌else◌}
use Rattle.serve_core.specs.declared.held.Held.{Held}
use Rattle.serve_core.specs.Bare.{Blank, measures_any, is_any_image}
use Rattle.serve_core.specs.Desk.{one, settlement}
use Rattle.serve_core.specs.Events as events
use Rattle.serve_core.specs.Events.{Event, Reply, Transcript, Start, Then, joined}
use Rattle.serve_core.specs.Leads.{Leads, state_from}
use Rattle.serve_core.specs.Setup.{StreamSpec}
use Rattle.serve_core.specs.States.{State, StreamState, held_at, next_cost}
use Rattle.serve_hub.specs.declared.entry.Act.{Act}
use Rattle.serve_hub.specs.declared.entry.Act.TheVariants.{Offered, Closed, Leased, Settled, Collected}
use Rattle.serve_hub.specs.declared.entry.Act.TheVariants.{Admitted}
use Rattle.serve_hub.specs.declared.entry.Entry.{Entry}
use Rattle.serve_hub.specs.declared.entry.Seat.{Seat}
use Rattle.serve_hub.specs.declared.entry.Seat.TheVariants.{Stream, Worker}

abbrev pub entry_of : Seat → Act → Entry
entry_of seat act = record { seat = seat; act = act }

-- the moment that the clock goes on to: that of the offer, if it is later
abbrev pub tick_of : (clock at : ℕ) → Option ℕ
tick_of clock at = if nat_lt clock at then Some at else None

abbrev pub ticks : Option ℕ → Transcript Blank Blank
ticks None = Start
ticks (Some moment) = Then Start (events.Tick moment) events.Ticked

-- the frame that a settlement finished, if it did: that of the lease
abbrev pub number_of : (is_finished : Bool) → Option Held → Option ℕ
number_of true (Some held) = Some held.number
number_of is_finished held = None

-- a stream of this spec is admitted, if there is one
abbrev pub admission_of : ℕ → Option StreamSpec → Transcript Blank Blank
admission_of s None = Start
admission_of s (Some spec) = one (events.Admit spec) (events.Admitted s)

-- the events that an entry stands for, with their replies, in the state that its call found, where the
-- streams have these specs, which never change
abbrev pub events_of : List StreamSpec → State Blank → Seat → Act → Transcript Blank Blank
events_of specs m (Stream s) (Offered tick number) =
    Then (ticks tick) (events.Arrive s tt) (events.Accepted number)
events_of specs m (Stream s) Closed = one (events.Close s) events.Closing
events_of specs m (Stream s) (Collected number) = one (events.Collect s) (events.Image tt)
events_of specs m (Stream s) Admitted = admission_of s (slice_get specs s)
events_of specs m (Worker w) (Leased s number grant) = one (events.Lease w) (events.Leased s number grant)
events_of specs m (Worker w) (Settled bands is_finished) =
    settlement w bands (number_of is_finished (held_at m.workers w))
events_of specs m seat act = Start

-- an act is of its seat's kind, an offer tells a moment only where that is later than the clock, a collection
-- tells how many were collected before it, and a stream that is admitted has a spec
abbrev pub IsEntry : List StreamSpec → State Blank → Seat → Act → Type 0
IsEntry specs m (Stream s) (Offered tick number) = IfSome tick (λ moment. m.clock < moment)
IsEntry specs m (Stream s) Closed = ⊤
IsEntry specs m (Stream s) (Collected number) =
    IsSomeAnd (slice_get m.streams s) (λ x. number ≡ x.collected)
IsEntry specs m (Stream s) Admitted = s < length specs
IsEntry specs m (Worker w) (Leased s number grant) = ⊤
IsEntry specs m (Worker w) (Settled bands is_finished) = ⊤
IsEntry specs m seat act = ⊥

-- what a journal stands for from an opening state on: the events of its entries, joined. The first entry of
-- the list is the latest
abbrev pub transcript_of : List StreamSpec → State Blank → List Entry → Transcript Blank Blank
transcript_of specs opening [] = Start
transcript_of specs opening (e ∷ past) =
    let before = transcript_of specs opening past in
    joined before (events_of specs (state_from opening before) e.seat e.act)

-- the clock of the state to which a journal leads from an opening state
abbrev pub clock_in : List StreamSpec → State Blank → List Entry → ℕ
clock_in specs opening past = (state_from opening (transcript_of specs opening past)).clock

abbrev pub AreEntries : List StreamSpec → State Blank → List Entry → Type 0
AreEntries specs opening [] = ⊤
AreEntries specs opening (e ∷ past) =
    AreEntries specs opening past
    × IsEntry specs (state_from opening (transcript_of specs opening past)) e.seat e.act

-- the transcript of a journal is legal from the opening state on, and leads to the state m
pub record IsJournal (specs : List StreamSpec) (opening : State Blank) (past : List Entry) (m : State Blank)
    : Type 0 where
  pub entries : AreEntries specs opening past
  pub leads : Leads measures_any is_any_image opening (transcript_of specs opening past) m

-- a journal leads from l to m, and another, with perhaps more streams behind, from m to n: the first and then
-- the second are one journal, which leads from l to n
abbrev pub JoinedLaw : Type 0
JoinedLaw =
    (specs more : List StreamSpec) (l m n : State Blank) (first second : List Entry)
    → IsJournal specs l first m
    → IsJournal (specs ++ more) m second n
    → IsJournal (specs ++ more) l (second ++ first) n
    × (transcript_of (specs ++ more) l (second ++ first)
    ≡ joined (transcript_of specs l first) (transcript_of (specs ++ more) m second))

-- what the next band of a lease costs
abbrev pub stream_cost : Option (StreamState Blank) → ℕ
stream_cost None = 0
stream_cost (Some x) = next_cost x

abbrev pub lease_cost : State Blank → Option Held → ℕ
lease_cost m None = 0
lease_cost m (Some held) = stream_cost (slice_get m.streams held.stream)

-- the units of a reply to worker w: a band that is stepped costs what the state before it says
abbrev pub event_units : (w : ℕ) → State Blank → Event Blank → Reply Blank Blank → ℕ
event_units w m (events.Band v) events.Stepped = if nat_eq v w then lease_cost m (held_at m.workers v) else 0
event_units w m e r = 0

-- the units of worker w's Stepped replies, from an opening state on
abbrev pub units_from : State Blank → (w : ℕ) → Transcript Blank Blank → ℕ
units_from opening w Start = 0
units_from opening w (Then p e r) = units_from opening w p + event_units w (state_from opening p) e r

-- the bands that worker w settled
abbrev pub act_bands : (w : ℕ) → Seat → Act → ℕ
act_bands w (Worker v) (Settled bands is_finished) = if nat_eq v w then bands else 0
act_bands w seat act = 0

abbrev pub bands_of : (w : ℕ) → List Entry → ℕ
bands_of w past = sum_by (λ e. act_bands w e.seat e.act) past
