-- Bare transcripts: those without their frames and images.
use Rattle.std.specs.Prelude.{◌≡◌, ⊤, map}
use Rattle.serve_core.specs.Events.{Event, Arrive, Lease, Band, Settle, Tick, Close, Collect, Admit}
use Rattle.serve_core.specs.Events.{Finished, Ticked, Closing, Image, Admitted, Refused, GivenBack, SpecBack}
use Rattle.serve_core.specs.Events.{Transcript, Start, Then, Reply, Accepted, Leased, Stepped, Returned}
use Rattle.serve_core.specs.Leads.{Leads}
use Rattle.serve_core.specs.Rules.{IsLegal}
use Rattle.serve_core.specs.Setup.{Setup, ImageRelation, SizeTest}
use Rattle.serve_core.specs.States.{StreamState, State, state_of}

-- what stands for a frame that is left unread
abbrev pub Blank : Type 0
Blank = Unit {0}

-- it may have the stream's size or not, and its image is left unread too
abbrev pub measures_any : SizeTest Blank
measures_any spec frame is_sized = ⊤

abbrev pub is_any_image : ImageRelation Blank Blank
is_any_image spec source image = ⊤

module _ {F : Type 0} where
  abbrev pub blank : F → Blank
  blank f = tt

  abbrev pub bare_event : Event F → Event Blank
  bare_event (Arrive s f) = Arrive s tt
  bare_event (Lease w) = Lease w
  bare_event (Band w) = Band w
  bare_event (Settle w) = Settle w
  bare_event (Tick to) = Tick to
  bare_event (Close s) = Close s
  bare_event (Collect s) = Collect s
  bare_event (Admit spec) = Admit spec

  -- a stream without its frames, but for their number
  abbrev pub bare_stream : StreamState F → StreamState Blank
  bare_stream x = record {
    spec = x.spec;
    accepted = x.accepted;
    finished = x.finished;
    collected = x.collected;
    is_closed = x.is_closed;
    charged = x.charged;
    done = x.done;
    holder = x.holder;
    account = x.account;
    frames = map blank x.frames;
  }

  abbrev pub bare_state : State F → State Blank
  bare_state m =
      record {
        clock = m.clock;
        quantum = m.quantum;
        streams = map bare_stream m.streams;
        workers = m.workers;
      }

module _ {F G : Type 0} where
  abbrev pub bare_reply : Reply F G → Reply Blank Blank
  bare_reply (Accepted n) = Accepted n
  bare_reply (Leased s n g) = Leased s n g
  bare_reply Stepped = Stepped
  bare_reply Returned = Returned
  bare_reply (Finished n) = Finished n
  bare_reply Ticked = Ticked
  bare_reply Closing = Closing
  bare_reply (Image g) = Image tt
  bare_reply (Admitted s) = Admitted s
  bare_reply (Refused k) = Refused k
  bare_reply (GivenBack k f) = GivenBack k tt
  bare_reply (SpecBack k spec) = SpecBack k spec

  abbrev pub bare : Transcript F G → Transcript Blank Blank
  bare Start = Start
  bare (Then p e r) = Then (bare p) (bare_event e) (bare_reply r)

module _ {F G : Type 0} (measures : SizeTest F) (is_image : ImageRelation F G) where
  -- a legal transcript without its frames is legal, and leads to the state without its frames
  abbrev pub BareLaw : Type 0
  BareLaw =
      (setup : Setup) (p : Transcript F G) → IsLegal measures is_image setup p
      → IsLegal measures_any is_any_image setup (bare p)
      × (state_of setup (bare p) ≡ bare_state (state_of setup p))

  -- and so it is from any opening state
  abbrev pub BareFromLaw : Type 0
  BareFromLaw =
      (m n : State F) (p : Transcript F G) → Leads measures is_image m p n
      → Leads measures_any is_any_image (bare_state m) (bare p) (bare_state n)
