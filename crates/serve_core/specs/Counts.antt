-- What is counted in a transcript: the clock, what each worker holds, and what happened to each stream.
use Rattle.std.specs.Prelude.{ℕ, ◌+◌, Bool, true, false, nat_eq, nat_lt, List, [], ◌∷◌, ◌++◌, drop, replicate}
use Rattle.std.specs.Prelude.{length, Option, Some, None, if◌then◌else◌}
use Rattle.cbs_account.specs.Laws.{unit_count}
use Rattle.cbs_account.specs.Rules.{OwnEvent, UnitOfWork, Idle}
use Rattle.serve_core.specs.declared.held.Held.{Held}
use Rattle.serve_core.specs.Events.{Event, Arrive, Lease, Band, Settle, Tick, Close, Collect, Admit}
use Rattle.serve_core.specs.Events.{Finished, Ticked, Closing, Image, with_admitted}
use Rattle.serve_core.specs.Events.{Transcript, Start, Then, Reply, Accepted, Leased, Stepped, Returned}
use Rattle.serve_core.specs.Grants.{cost_of_band}
use Rattle.serve_core.specs.Setup.{Setup, StreamSpec}

-- what happens to one stream: a frame comes, a band of its frame is done, the frame is lent to a worker,
-- comes back or is finished, the stream is shut, and an image of it is taken
pub data Deed (F : Type 0) : Type 0 where
  Came : (moment : ℕ) (frame : F) → Deed F
  Worked : Deed F
  Lent : (worker : ℕ) → Deed F
  Back : Deed F
  Ended : Deed F
  Shut : Deed F
  Taken : Deed F

abbrev pub one_more_used : Option Held → Option Held
one_more_used None = None
one_more_used (Some l) =
    Some (record { stream = l.stream; number = l.number; grant = l.grant; used = l.used + 1 })

-- whether a worker has stream s
abbrev pub has_stream : ℕ → Option Held → Bool
has_stream s None = false
has_stream s (Some l) = nat_eq l.stream s

abbrev pub with_deed : {F : Type 0} → Option (Deed F) → List (Deed F) → List (Deed F)
with_deed None h = h
with_deed (Some d) h = d ∷ h

module _ {F G : Type 0} where
  abbrev pub clock_after : ℕ → Event F → Reply F G → ℕ
  clock_after t (Tick to) Ticked = to
  clock_after t e r = t

  -- the moment of the last tick, 0 before any
  abbrev pub now : Transcript F G → ℕ
  now Start = 0
  now (Then p e r) = clock_after (now p) e r

  abbrev pub held_after_lease : Option Held → Reply F G → Option Held
  held_after_lease h (Leased s n g) = Some (record { stream = s; number = n; grant = g; used = 0 })
  held_after_lease h r = h

  abbrev pub held_after_band : Option Held → Reply F G → Option Held
  held_after_band h Stepped = one_more_used h
  held_after_band h r = h

  abbrev pub held_after_settle : Option Held → Reply F G → Option Held
  held_after_settle h Returned = None
  held_after_settle h (Finished n) = None
  held_after_settle h r = h

  -- what worker w holds after an event, from what it held before
  abbrev pub held_after : ℕ → Option Held → Event F → Reply F G → Option Held
  held_after w h (Lease v) r = if nat_eq v w then held_after_lease h r else h
  held_after w h (Band v) r = if nat_eq v w then held_after_band h r else h
  held_after w h (Settle v) r = if nat_eq v w then held_after_settle h r else h
  held_after w h e r = h

  -- what worker w holds: its last lease, with the bands that it did since, unless that was settled
  abbrev pub held : ℕ → Transcript F G → Option Held
  held w Start = None
  held w (Then p e r) = held_after w (held w p) e r

  -- what a reply says of its stream, by the event
  abbrev pub came : ℕ → F → Reply F G → Option (Deed F)
  came t f (Accepted n) = Some (Came t f)
  came t f r = None

  abbrev pub lent : ℕ → ℕ → Reply F G → Option (Deed F)
  lent s w (Leased u n g) = if nat_eq u s then Some (Lent w) else None
  lent s w r = None

  abbrev pub worked : Reply F G → Option (Deed F)
  worked Stepped = Some Worked
  worked r = None

  abbrev pub settled : Reply F G → Option (Deed F)
  settled Returned = Some Back
  settled (Finished n) = Some Ended
  settled r = None

  abbrev pub shut : Reply F G → Option (Deed F)
  shut Closing = Some Shut
  shut r = None

  abbrev pub taken : Reply F G → Option (Deed F)
  taken (Image g) = Some Taken
  taken r = None

  -- what an event did to stream s at a moment, by what each worker held then
  abbrev pub deed : ℕ → ℕ → (ℕ → Option Held) → Event F → Reply F G → Option (Deed F)
  deed s t workers (Arrive u f) r = if nat_eq u s then came t f r else None
  deed s t workers (Lease w) r = lent s w r
  deed s t workers (Band w) r = if has_stream s (workers w) then worked r else None
  deed s t workers (Settle w) r = if has_stream s (workers w) then settled r else None
  deed s t workers (Tick to) r = None
  deed s t workers (Close u) r = if nat_eq u s then shut r else None
  deed s t workers (Collect u) r = if nat_eq u s then taken r else None
  deed s t workers (Admit spec) r = None

  -- what worker w holds where there are n workers
  abbrev pub held_below : ℕ → Transcript F G → ℕ → Option Held
  held_below n p w = if nat_lt w n then held w p else None

  -- the streams: those of the setup, and behind them those that were admitted, in order
  abbrev pub specs : Setup → Transcript F G → List StreamSpec
  specs setup Start = setup.streams
  specs setup (Then p e r) = with_admitted (λ spec. spec) e r (specs setup p)

  -- what an event did to stream s, if that was there
  abbrev pub next_deed : Setup → ℕ → Transcript F G → Event F → Reply F G → Option (Deed F)
  next_deed setup s p e r =
      if nat_lt s (length (specs setup p)) then deed s (now p) (held_below setup.workers p) e r else None

  -- what happened to stream s, the latest first
  abbrev pub history : Setup → ℕ → Transcript F G → List (Deed F)
  history setup s Start = []
  history setup s (Then p e r) = with_deed (next_deed setup s p e r) (history setup s p)

  -- the images that stream s gave, in order
  abbrev pub delivered : ℕ → Transcript F G → List G
  delivered s Start = []
  delivered s (Then p (Collect t) (Image g)) = if nat_eq t s then delivered s p ++ g ∷ [] else delivered s p
  delivered s (Then p e r) = delivered s p

-- what is counted of one stream, by what happened to it
module _ {F : Type 0} where
  abbrev pub accepted : List (Deed F) → ℕ
  accepted [] = 0
  accepted (Came t f ∷ h) = accepted h + 1
  accepted (d ∷ h) = accepted h

  abbrev pub finished : List (Deed F) → ℕ
  finished [] = 0
  finished (Ended ∷ h) = finished h + 1
  finished (d ∷ h) = finished h

  abbrev pub collected : List (Deed F) → ℕ
  collected [] = 0
  collected (Taken ∷ h) = collected h + 1
  collected (d ∷ h) = collected h

  abbrev pub is_closed : List (Deed F) → Bool
  is_closed [] = false
  is_closed (Shut ∷ h) = true
  is_closed (d ∷ h) = is_closed h

  -- the bands since the last frame was finished
  abbrev pub done : List (Deed F) → ℕ
  done [] = 0
  done (Worked ∷ h) = done h + 1
  done (Ended ∷ h) = 0
  done (d ∷ h) = done h

  -- the worker that has the stream's frame, if it is out
  abbrev pub holder : List (Deed F) → Option ℕ
  holder [] = None
  holder (Lent w ∷ h) = Some w
  holder (Back ∷ h) = None
  holder (Ended ∷ h) = None
  holder (d ∷ h) = holder h

  -- the accepted frames, in order
  abbrev pub frames : List (Deed F) → List F
  frames [] = []
  frames (Came t f ∷ h) = frames h ++ f ∷ []
  frames (d ∷ h) = frames h

  -- the accepted frames that aren't collected, in order
  abbrev pub waiting : List (Deed F) → List F
  waiting [] = []
  waiting (Came t f ∷ h) = waiting h ++ f ∷ []
  waiting (Taken ∷ h) = drop 1 (waiting h)
  waiting (d ∷ h) = waiting h

  -- what the stream's account lives by, the latest first: the arrivals that find no unfinished frame, and as
  -- many units for each band as it costs
  abbrev pub own_events : List ℕ → List (Deed F) → List OwnEvent
  own_events costs [] = []
  own_events costs (Came t f ∷ h) =
      if nat_eq (accepted h) (finished h) then Idle t ∷ own_events costs h else own_events costs h
  own_events costs (Worked ∷ h) = replicate (cost_of_band (done h) costs) UnitOfWork ++ own_events costs h
  own_events costs (d ∷ h) = own_events costs h

  -- how many units there are among them
  abbrev pub charged : List ℕ → List (Deed F) → ℕ
  charged costs h = unit_count (own_events costs h)
