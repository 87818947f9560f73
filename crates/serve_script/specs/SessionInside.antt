-- What the program keeps of a session script.
use Rattle.std.specs.Prelude.{ℕ, ◌≡◌, ◌≤◌, ◌<◌, ◌/◌, ◌⊎◌, ⊤, Bool, false, true, nat_eq, List, [], ◌∷◌, ◌++◌}
use Rattle.std.specs.Prelude.{length, map, take}
use Rattle.std.specs.Prelude.{codes, slice_get, Option, Some, MatchBool, Result, Ok, Err}
use Rattle.hex.specs.Hex.{decode_of}
use Rattle.serve_core.specs.Events.{Admit, Admitted, Arrive, Event, Reply}
use Rattle.std.specs.Option.{option_map_or}
use Rattle.filters.specs.ChainImage.{FrameValue}
use Rattle.frame_view.specs.Places.{frame_len}
use Rattle.frame_view.specs.declared.geometry.Geometry.{Geometry}
use Rattle.y4m_header.specs.declared.limits.TheConstants.{LONGEST_SIDE}
use Rattle.serve_core.specs.Frames.{is_image, measures}
use Rattle.serve_core.specs.Reached.{IsReached}
use Rattle.serve_core.specs.Rules.{IsLegal}
use Rattle.serve_core.specs.Setup.{IsSetup, StreamSpec}
use Rattle.serve_core.specs.States.{State, state_of}
use Rattle.serve_script.specs.ScriptFault as faults
use Rattle.serve_script.specs.ScriptFault.{Fault}
use Rattle.serve_script.specs.ScriptState.{ComesLate, Given, InSession, Prints, Session, Settings}
use Rattle.serve_script.specs.ScriptReport.{line_text}
use Rattle.serve_script.specs.declared.session.stream_settings.StreamSettings.{StreamSettings}
use Rattle.serve_script.specs.SessionRun.{IsArrival, IsSingleRow, is_too_wide, stream_named, streams_in}

-- the streams by number: their names, and the geometries of their frames
pub record Streams : Type 0 where
  pub names : List (List ℕ)
  pub geometries : List Geometry

abbrev pub no_streams : Streams
no_streams = record { names = []; geometries = [] }

abbrev pub with_named : List ℕ → Geometry → Streams → Streams
with_named name geometry streams = record {
  names = streams.names ++ name ∷ [];
  geometries = streams.geometries ++ geometry ∷ [];
}

abbrev pub first_streams : ℕ → Streams → Streams
first_streams n streams =
    record { names = take n streams.names; geometries = take n streams.geometries }

-- the streams where the machine has answered so and there were n before the last one
abbrev pub admitted_streams : ℕ → Reply FrameValue FrameValue → Streams → Streams
admitted_streams n (Admitted stream) streams = streams
admitted_streams n reply streams = first_streams n streams

abbrev pub geometries_of : List StreamSpec → List Geometry
geometries_of specs = map (λ spec. spec.geometry) specs

-- the table has a name and the geometry of each stream
pub record IsTableOf (streams : Streams) (specs : List StreamSpec) : Type 0 where
  pub names : length streams.names ≡ length specs
  pub geometries : streams.geometries ≡ geometries_of specs

-- the settings of the program as scripts have them
abbrev pub settings_told : StreamSettings → Settings
settings_told settings = record { band = settings.height.rows; frames = settings.frames }

-- the fault of a stream's line, which asks for such a thing: it is what the line asks for, or there is no
-- memory for what it asks for
abbrev pub IsLate : Result StreamSpec Fault → Type 0
IsLate (Ok spec) = ⊤
IsLate (Err fault) = ComesLate fault

abbrev pub MayLack : (Result StreamSpec Fault → Type 0) → Fault → Type 0
MayLack Asks faults.NoMemory = (asked : Result StreamSpec Fault) → Asks asked → IsLate asked
MayLack Asks fault = Asks (Err fault)

-- what the program keeps of a session: the streams, how those that are admitted are served, and the machine
pub record SessionValue : Type 0 where
  pub streams : Streams
  pub settings : Settings
  pub machine : State FrameValue

-- events of some setup led to the machine, and each name is that of one of its streams
pub record IsRunning (streams : Streams) (machine : State FrameValue) : Type 0 where
  pub names : length streams.names ≤ length machine.streams
  pub reached : IsReached measures is_image machine

-- this is kept of a session
pub record IsAt (kept : SessionValue) (session : Session) : Type 0 where
  pub names : kept.streams.names ≡ session.names
  pub settings : kept.settings ≡ session.settings
  pub table : IsTableOf kept.streams (streams_in session)
  pub setup : IsSetup session.setup
  pub legal : IsLegal measures is_image session.setup session.past
  pub machine : kept.machine ≡ state_of session.setup session.past

-- an event that asks for no stream
abbrev pub AsksForNone : Event FrameValue → Type 0
AsksForNone (Admit spec) = ⊥
AsksForNone event = ⊤

-- a session's line that gives such a thing was answered so, the answer was printed, and this is kept of what
-- it led to
pub record AnswersIn (Gives : Given → Type 0) (kept : SessionValue) (before after : List ℕ) : Type 0 where
  pub answer : List ℕ
  pub next : Session
  pub gives : Gives (Prints answer (InSession next))
  pub stands : IsAt kept next
  pub printed : after ≡ before ++ line_text answer

-- so many samples fill a frame of this geometry, if there is one
abbrev pub fills_geometry : Option Geometry → ℕ → Bool
fills_geometry geometry count = option_map_or (λ g. nat_eq count (frame_len g)) geometry false

-- the geometry of a frame of so many samples that arrives where frames have this one
abbrev pub IsArriving : Option Geometry → ℕ → Geometry → Type 0
IsArriving geometry count g =
    MatchBool (fills_geometry geometry count) (geometry ≡ Some g) (IsSingleRow count g)

-- the frame of hexadecimal digits that arrives where frames have this geometry
pub record IsFrameOf (served : Option Geometry) (hex : List ℕ) (frame : FrameValue) : Type 0 where
  pub decoded : decode_of hex ≡ Ok frame.samples
  pub narrow : (fills_geometry served (length frame.samples) ≡ true) ⊎ (length frame.samples ≤ LONGEST_SIDE)
  pub geometry : IsArriving served (length frame.samples) frame.geometry
  pub line : frame.line ≡ codes "FRAME"

-- why there is no such frame: its samples are too many for a row, or there is no memory for one that isn't so
abbrev pub IsNoFrame : Option Geometry → List ℕ → Fault → Type 0
IsNoFrame geometry hex faults.BadLine =
    (fills_geometry geometry (length hex / 2) ≡ false) × (LONGEST_SIDE < length hex / 2)
IsNoFrame geometry hex faults.NoMemory =
    (fills_geometry geometry (length hex / 2) ≡ true) ⊎ (length hex / 2 ≤ LONGEST_SIDE)
IsNoFrame geometry hex fault = ⊥

-- the event of a line `arrive NAME HEX`
abbrev pub IsArrivalEvent : Session → List ℕ → List ℕ → Event FrameValue → Type 0
IsArrivalEvent session name hex event =
    let number = stream_named session.names name in
    (frame : FrameValue) × (event ≡ Arrive number frame) × (decode_of hex ≡ Ok frame.samples)
    × (is_too_wide (slice_get (streams_in session) number) (length frame.samples) ≡ false)
    × IsArrival (slice_get (streams_in session) number) frame.samples frame
