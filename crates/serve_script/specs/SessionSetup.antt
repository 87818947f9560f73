-- What the lines of a session script give before its `start`.
use Rattle.std.specs.Prelude.{ℕ, ◌≡◌, ◌⊎◌, List, [], ◌∷◌, ◌++◌, length, codes, decimal, slice_index_or}
use Rattle.row_bands.specs.Height.{IsBandHeight}
use Rattle.serve_core.specs.Admitted.{IsFault}
use Rattle.serve_core.specs.Events.{Start as Opening}
use Rattle.serve_core.specs.Setup.{IsSetup, Setup, StreamSpec, setup_of}
use Rattle.serve_core.specs.declared.setup.SetupError.{SetupError}
use Rattle.serve_core.specs.declared.setup.SetupError.TheVariants as setups
use Rattle.serve_script.specs.ScriptFault as faults
use Rattle.serve_script.specs.ScriptFault.{Fault}
use Rattle.serve_script.specs.ScriptState.{Given, Prints, Faults, InSetup, InSession, Preparation}
use Rattle.serve_script.specs.ScriptState.{Session, Settings}
use Rattle.serve_script.specs.SessionCommand.{SetupForm, Workers, Quantum, Band, Frames, Stream, Start}
use Rattle.serve_script.specs.SessionCommand.{StreamForm}
use Rattle.serve_script.specs.StreamLine.{LineGives}

-- a setting is answered `ok`
abbrev pub settled : Preparation → Given
settled next = Prints (codes "ok") (InSetup next)

abbrev pub with_settings : Settings → Preparation → Preparation
with_settings settings p = record p { settings = settings }

-- bands of so many rows, for the streams that follow
abbrev pub BandGives : Preparation → ℕ → Given → Type 0
BandGives p rows given =
    (IsBandHeight rows × (given ≡ settled (with_settings (record p.settings { band = rows }) p)))
    ⊎ ((¬ IsBandHeight rows) × (given ≡ Faults faults.BadLimits))

-- `stream S`, the number of the stream
abbrev pub stream_line : ℕ → List ℕ
stream_line number = codes "stream " ++ decimal number

abbrev pub with_stream : List ℕ → StreamSpec → Preparation → Preparation
with_stream name spec p = record p { names = p.names ++ name ∷ []; streams = p.streams ++ spec ∷ [] }

abbrev pub stream_added : Preparation → List ℕ → StreamSpec → Given
stream_added p name spec = Prints (stream_line (length p.streams)) (InSetup (with_stream name spec p))

-- the stream of a line comes behind the others
abbrev pub StreamGives : Preparation → StreamForm → Given → Type 0
StreamGives p form given =
    LineGives p.names p.settings form (λ spec made. made ≡ stream_added p form.name spec) given

-- what the machine of a session is made for
abbrev pub prepared_setup : Preparation → Setup
prepared_setup p = setup_of p.workers p.quantum p.streams

-- the fault of a setup, with the name of the stream whose fault it is
abbrev pub start_fault : List (List ℕ) → SetupError → Fault
start_fault names setups.BadLimits = faults.BadLimits
start_fault names (setups.BadBandwidth s) = faults.BadBandwidthOf (slice_index_or names s [])
start_fault names (setups.Overload s) = faults.OverloadOf (slice_index_or names s [])

-- the session before any event: streams that are admitted have the last settings
abbrev pub begun : Preparation → Session
begun p = record { names = p.names; settings = p.settings; setup = prepared_setup p; past = Opening }

abbrev pub started : Preparation → Given
started p = Prints (codes "started") (InSession (begun p))

abbrev pub StartGives : Preparation → Given → Type 0
StartGives p given =
    (IsSetup (prepared_setup p) × (given ≡ started p))
    ⊎ ((error : SetupError) × IsFault error (prepared_setup p) × (given ≡ Faults (start_fault p.names error)))

-- what a command gives before `start`
abbrev pub SetupGives : Preparation → SetupForm → Given → Type 0
SetupGives p (Workers count) given = given ≡ settled (record p { workers = count })
SetupGives p (Quantum bands) given = given ≡ settled (record p { quantum = bands })
SetupGives p (Band rows) given = BandGives p rows given
SetupGives p (Frames most) given =
    given ≡ settled (with_settings (record p.settings { frames = most }) p)
SetupGives p (Stream form) given = StreamGives p form given
SetupGives p Start given = StartGives p given
