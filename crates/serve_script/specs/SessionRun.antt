-- What the lines of a session script give after its `start`.
use Rattle.std.specs.Prelude.{ℕ, ◌≡◌, Bool, not, false, ◌&&◌, nat_eq, nat_lt, List, [], ◌∷◌, ◌++◌, length}
use Rattle.std.specs.Prelude.{codes}
use Rattle.std.specs.Prelude.{slice_get, slice_index_or, Option, Some, None, IsSomeAnd, MatchBool, Ok}
use Rattle.std.specs.List.{position_or_len}
use Rattle.std.specs.Option.{option_map_or}
use Rattle.std.specs.Str.{bytes_eq}
use Rattle.hex.specs.Hex.{decode_of}
use Rattle.filters.specs.ChainImage.{FrameValue}
use Rattle.frame_view.specs.Places.{frame_len}
use Rattle.frame_view.specs.declared.geometry.Geometry.{Geometry}
use Rattle.y4m_header.specs.declared.chroma.Chroma.TheVariants.{Mono}
use Rattle.y4m_header.specs.declared.limits.TheConstants.{LONGEST_SIDE}
use Rattle.serve_core.specs.Counts.{specs}
use Rattle.serve_core.specs.Events as events
use Rattle.serve_core.specs.Events.{Admitted, Event, Leased, Reply, Then}
use Rattle.serve_core.specs.Frames.{is_image, measures}
use Rattle.serve_core.specs.Rules.{IsLegal}
use Rattle.serve_core.specs.Schedule.{account_of, counts_of}
use Rattle.serve_core.specs.Setup.{StreamSpec}
use Rattle.serve_core.specs.States.{StreamState, state_of}
use Rattle.serve_core.specs.declared.refusal.Refusal.TheVariants.{NoStream}
use Rattle.serve_script.specs.ScriptFault as faults
use Rattle.serve_script.specs.ScriptState.{Given, Prints, Faults, InSession, Session}
use Rattle.serve_script.specs.SessionCommand.{RunForm, Arrive, Lease, Step, Settle, Tick, Close, Collect}
use Rattle.serve_script.specs.SessionCommand.{Admit, State, StreamForm}
use Rattle.serve_script.specs.SessionLine.{refused_line, reply_line, state_line}
use Rattle.serve_script.specs.StreamLine.{LineGives}

-- the streams of a session, by number: those of its setup, and behind them those that were admitted
abbrev pub streams_in : Session → List StreamSpec
streams_in session = specs session.setup session.past

-- the number of the stream of this name; a name that no stream has stands for the number after the last one's
abbrev pub stream_named : List (List ℕ) → List ℕ → ℕ
stream_named names name = position_or_len (λ taken. bytes_eq name taken) names

-- the name of the stream that is leased
abbrev pub leased_name : List (List ℕ) → Reply FrameValue FrameValue → List ℕ
leased_name names (Leased stream number grant) = slice_index_or names stream []
leased_name names reply = []

-- the line of a reply where the streams have these names
abbrev pub answer_in : List (List ℕ) → Reply FrameValue FrameValue → List ℕ
answer_in names reply = reply_line (leased_name names reply) reply

-- an event gives the line of a reply that is right behind all that was asked and answered before; the streams
-- then have these names
abbrev pub ReplyGives :
    Session → Event FrameValue → (Reply FrameValue FrameValue → List (List ℕ)) → Given → Type 0
ReplyGives session event names_after given =
    (reply : Reply FrameValue FrameValue)
    × IsLegal measures is_image session.setup (Then session.past event reply)
    × (given ≡ Prints (answer_in (names_after reply) reply)
    (InSession (record session { names = names_after reply; past = Then session.past event reply })))

-- an event that asks for no stream leaves the names
abbrev pub EventGives : Session → Event FrameValue → Given → Type 0
EventGives session event given = ReplyGives session event (λ reply. session.names) given

-- a stream that is admitted takes the name; else the name stays free
abbrev pub names_with : List ℕ → List (List ℕ) → Reply FrameValue FrameValue → List (List ℕ)
names_with name names (Admitted stream) = names ++ name ∷ []
names_with name names reply = names

-- one stream more is asked for
abbrev pub SpecGives : Session → List ℕ → StreamSpec → Given → Type 0
SpecGives session name spec given =
    ReplyGives session (events.Admit spec) (names_with name session.names) given

-- by a line
abbrev pub AdmitGives : Session → StreamForm → Given → Type 0
AdmitGives session form given =
    LineGives session.names session.settings form (SpecGives session form.name) given

-- so many samples fill a frame of the stream, if there is one
abbrev pub fills : Option StreamSpec → ℕ → Bool
fills stream count = option_map_or (λ spec. nat_eq count (frame_len spec.geometry)) stream false

-- a single row of so many samples of luma alone
pub record IsSingleRow (count : ℕ) (geometry : Geometry) : Type 0 where
  pub width : geometry.width ≡ count
  pub height : geometry.height ≡ 1
  pub chroma : geometry.chroma ≡ Mono

-- the frame of these samples that arrives at a stream: of its geometry where they fill that, else a single
-- row
pub record IsArrival (stream : Option StreamSpec) (sent : List ℕ) (frame : FrameValue) : Type 0 where
  pub geometry :
      MatchBool (fills stream (length sent)) (IsSomeAnd stream (λ spec. frame.geometry ≡ spec.geometry))
      (IsSingleRow (length sent) frame.geometry)
  pub line : frame.line ≡ codes "FRAME"
  pub samples : frame.samples ≡ sent

-- samples that fill no frame of the stream, and are too many for a row
abbrev pub is_too_wide : Option StreamSpec → ℕ → Bool
is_too_wide stream count = not (fills stream count) && nat_lt LONGEST_SIDE count

-- a frame arrives, in hexadecimal digits
abbrev pub ArrivalGives : Session → List ℕ → List ℕ → Given → Type 0
ArrivalGives session name hex given =
    let number = stream_named session.names name in
    let stream = slice_get (streams_in session) number in
    (samples : List ℕ) × (decode_of hex ≡ Ok samples)
    × MatchBool (is_too_wide stream (length samples)) (given ≡ Faults faults.BadLine)
    ((frame : FrameValue) × IsArrival stream samples frame
    × EventGives session (events.Arrive number frame) given)

-- the line of a stream's state, if there is one
abbrev pub state_answer : {F : Type 0} → Option (StreamState F) → List ℕ
state_answer None = refused_line NoStream
state_answer (Some x) = state_line (account_of x) (counts_of x)

abbrev pub StateGives : Session → List ℕ → Given → Type 0
StateGives session name given =
    let streams = (state_of session.setup session.past).streams in
    given ≡ Prints (state_answer (slice_get streams (stream_named session.names name))) (InSession session)

-- what a command gives after `start`
abbrev pub RunGives : Session → RunForm → Given → Type 0
RunGives session (Arrive name hex) given = ArrivalGives session name hex given
RunGives session (Lease worker) given = EventGives session (events.Lease worker) given
RunGives session (Step worker) given = EventGives session (events.Band worker) given
RunGives session (Settle worker) given = EventGives session (events.Settle worker) given
RunGives session (Tick moment) given = EventGives session (events.Tick moment) given
RunGives session (Close name) given =
    EventGives session (events.Close (stream_named session.names name)) given
RunGives session (Collect name) given =
    EventGives session (events.Collect (stream_named session.names name)) given
RunGives session (Admit form) given = AdmitGives session form given
RunGives session (State name) given = StateGives session name given
