-- Frames that arrive in hexadecimal digits at a stream that has a name.
use Rattle.std.proofs.Common.{◌≡◌, ℕ, ◌-◌, ◌/◌, ◌%◌, ◌<◌, ◌≤◌, ◌==◌, ◌&&◌, ◌||◌, ◌⊎◌, inl, inr, Bool, true}
use Rattle.std.proofs.Common.{false, not, nat_eq, nat_le, List, length, slice_get, Option, Some, None}
use Rattle.std.proofs.Common.{is_some, Ok, refl, sym, ap, ◌∙◌, arith}
use Rattle.std.specs.Prelude.{MatchBool, IsSomeAnd, nat_lt, if◌then◌else◌}
use Rattle.std.specs.Char.{is_ascii_hexdigit}
use Rattle.std.specs.List.{list_all}
use Rattle.std.specs.Option.{option_map}
use Rattle.std.specs.Str.{bytes_eq}
use Rattle.std.proofs.lemmas.Bool.{and_parts, eqb-true}
use Rattle.std.proofs.lemmas.Bool.Decides.{nat_tests}
use Rattle.std.proofs.lemmas.List.Elements.{All-weaker}
use Rattle.std.proofs.lemmas.List.Sums.{AllPass-from_list_all, prefix_len-le-length}
use Rattle.std.proofs.lemmas.Option.{slice_get-map}
use Rattle.y4m_header.specs.declared.limits.TheConstants.{LONGEST_SIDE}
use Rattle.hex.specs.Hex.{decode_of, is_hex_digit}
use Rattle.hex.proofs.HexLemmas.{decode_of-digits, decode_of-ok}
use Rattle.filters.specs.ChainImage.{FrameValue}
use Rattle.frame_view.specs.Places.{frame_len}
use Rattle.frame_view.specs.declared.geometry.Geometry.{Geometry}
use Rattle.serve_core.specs.Events.{Event, Arrive}
use Rattle.serve_core.specs.Setup.{StreamSpec}
use Rattle.serve_script.specs.ScriptFault as faults
use Rattle.serve_script.specs.ScriptFault.{Fault}
use Rattle.serve_script.specs.ScriptState.{Given, Faults, MayFault, Session, TakesMemory}
use Rattle.serve_script.specs.SessionInside.{AsksForNone, IsArrivalEvent, IsArriving, IsAt, IsFrameOf}
use Rattle.serve_script.specs.SessionInside.{IsNoFrame, IsTableOf, SessionValue, Streams, fills_geometry}
use Rattle.serve_script.specs.SessionRun.{ArrivalGives, EventGives, IsArrival, IsSingleRow, fills, is_too_wide, stream_named, streams_in}
use Rattle.serve_script.specs.SessionWords.{is_hex}

-- the number of a name is at most that of the names
pub stream_named-le : (names : List (List ℕ)) (name : List ℕ) → stream_named names name ≤ length names
stream_named-le names name = prefix_len-le-length (λ taken. not (bytes_eq name taken)) names

-- a sample has two digits
pub half_of_digits : (hex samples : List ℕ) → decode_of hex ≡ Ok samples → length hex / 2 ≡ length samples
half_of_digits hex samples decoded = let twice = (decode_of-ok hex samples decoded).2 in omega (arith, twice)

digit_read : (upper lower digit : Bool) (a b c : ℕ) → ((digit || upper) || lower) ≡ true
    → is_some (if upper then Some a else if lower then Some b else if digit then Some c else None) ≡ true
digit_read true lower digit a b c h = refl
digit_read false true digit a b c h = refl
digit_read false false true a b c h = refl
digit_read false false false a b c h = h

-- a hexadecimal digit has a value
is_hex_digit-true : (c : ℕ) → is_ascii_hexdigit c ≡ true → is_hex_digit c ≡ true
is_hex_digit-true c h =
    digit_read (nat_le 65 c && nat_le c 70) (nat_le 97 c && nat_le c 102) (nat_le 48 c && nat_le c 57) (c - 55) (c - 87) (c - 48) h

-- pairs of digits are samples
pub decoded : (hex : List ℕ) → is_hex hex ≡ true → (samples : List ℕ) × (decode_of hex ≡ Ok samples)
decoded hex h =
    let all = and_parts (nat_le 1 (length hex) && length hex % 2 == 0) (list_all is_ascii_hexdigit hex) h in
    let even = and_parts (nat_le 1 (length hex)) (length hex % 2 == 0) all.0 in
    decode_of-digits hex (eqb-true (length hex % 2) 0 even.1)
    (All-weaker (λ c. is_ascii_hexdigit c ≡ true) (λ c. is_hex_digit c ≡ true) is_hex_digit-true hex
    (AllPass-from_list_all is_ascii_hexdigit hex all.1))

-- the geometry of a stream's frames
abbrev pub geometry_in : Option StreamSpec → Option Geometry
geometry_in stream = option_map (λ spec. spec.geometry) stream

-- the table has the geometries of the streams
pub geometry_named : (table : Streams) (specs : List StreamSpec) (number : ℕ) → IsTableOf table specs
    → slice_get table.geometries number ≡ geometry_in (slice_get specs number)
geometry_named table specs number is =
    ap (λ geometries. slice_get geometries number) is.geometries ∙ slice_get-map (λ spec. spec.geometry) specs number

fills_same : (stream : Option StreamSpec) (n : ℕ) → fills_geometry (geometry_in stream) n ≡ fills stream n
fills_same None n = refl
fills_same (Some spec) n = refl

narrow_by : (filled wide : Bool) → (filled ≡ true) ⊎ (wide ≡ false) → (not filled && wide) ≡ false
narrow_by true wide h = refl
narrow_by false true (inl h) = cc
narrow_by false true (inr h) = h
narrow_by false false h = refl

-- samples that fill a frame of the stream or a row aren't too many
pub narrow : (stream : Option StreamSpec) (n : ℕ) → (fills_geometry (geometry_in stream) n ≡ true) ⊎ (n ≤ LONGEST_SIDE)
    → is_too_wide stream n ≡ false
narrow stream n (inl full) = narrow_by (fills stream n) (nat_lt LONGEST_SIDE n) (inl (sym (fills_same stream n) ∙ full))
narrow stream n (inr few) =
    let none : nat_lt LONGEST_SIDE n ≡ false = grind (arith, nat_tests) in
    narrow_by (fills stream n) (nat_lt LONGEST_SIDE n) (inr none)

wide_by : (filled wide : Bool) → filled ≡ false → wide ≡ true → (not filled && wide) ≡ true
wide_by true wide h w = sym h
wide_by false wide h w = w

-- samples that fill neither are
pub too_wide : (stream : Option StreamSpec) (n : ℕ) → fills_geometry (geometry_in stream) n ≡ false → LONGEST_SIDE < n
    → is_too_wide stream n ≡ true
too_wide stream n unfilled many =
    let wide : nat_lt LONGEST_SIDE n ≡ true = grind (arith, nat_tests) in
    wide_by (fills stream n) (nat_lt LONGEST_SIDE n) (sym (fills_same stream n) ∙ unfilled) wide

arriving_by : (filled : Bool) (spec : StreamSpec) (n : ℕ) (g : Geometry)
    → MatchBool filled (Some spec.geometry ≡ Some g) (IsSingleRow n g)
    → MatchBool filled (g ≡ spec.geometry) (IsSingleRow n g)
arriving_by true spec n g h = cc
arriving_by false spec n g h = h

-- the geometry of a frame that arrives at a stream
arriving_at : (stream : Option StreamSpec) (n : ℕ) (g : Geometry) → IsArriving (geometry_in stream) n g
    → MatchBool (fills stream n) (IsSomeAnd stream (λ spec. g ≡ spec.geometry)) (IsSingleRow n g)
arriving_at None n g h = h
arriving_at (Some spec) n g h = arriving_by (nat_eq n (frame_len spec.geometry)) spec n g h

-- the frame of a line is one that arrives at the stream
pub arrival_of_frame : (stream : Option StreamSpec) (hex : List ℕ) (frame : FrameValue)
    → IsFrameOf (geometry_in stream) hex frame
    → (is_too_wide stream (length frame.samples) ≡ false) × IsArrival stream frame.samples frame
arrival_of_frame stream hex frame is = (
  narrow stream (length frame.samples) is.narrow,
  record {
    geometry = arriving_at stream (length frame.samples) frame.geometry is.geometry;
    line = is.line;
    samples = refl;
  },
)

-- the geometry that the table has for a name is that of the name's stream
served_named : (kept : SessionValue) (name : List ℕ) (number : ℕ) (served : Option Geometry) (session : Session)
    → number ≡ stream_named kept.streams.names name → served ≡ slice_get kept.streams.geometries number → IsAt kept session
    → served ≡ geometry_in (slice_get (streams_in session) (stream_named session.names name))
served_named kept name number served session named found stands =
    let place : number ≡ stream_named session.names name = named ∙ ap (λ names. stream_named names name) stands.names in
    found ∙ geometry_named kept.streams (streams_in session) number stands.table
    ∙ ap (λ n. geometry_in (slice_get (streams_in session) n)) place

-- and the event of such a frame is that of the line
pub arrival_event : (kept : SessionValue) (name hex : List ℕ) (number : ℕ) (served : Option Geometry) (frame : FrameValue)
    (event : Event FrameValue) → number ≡ stream_named kept.streams.names name
    → served ≡ slice_get kept.streams.geometries number → IsFrameOf served hex frame → event ≡ Arrive number frame
    → (session : Session) → IsAt kept session → IsArrivalEvent session name hex event
arrival_event kept name hex number served frame event named found is e session stands =
    let place : number ≡ stream_named session.names name = named ∙ ap (λ names. stream_named names name) stands.names in
    let stream = slice_get (streams_in session) (stream_named session.names name) in
    let of_stream : IsFrameOf (geometry_in stream) hex frame = rw (served_named kept name number served session named found stands) at is in
    let arrives = arrival_of_frame stream hex frame of_stream in
    (frame, e ∙ ap (λ n. Arrive n frame) place, is.decoded, arrives.0, arrives.1)

-- which asks for no stream
pub arrival_alone : (session : Session) (name hex : List ℕ) (event : Event FrameValue) → IsArrivalEvent session name hex event
    → AsksForNone event
arrival_alone session name hex event is = rw is.1 tt

narrow_gives : (wide : Bool) (Wide Narrow : Type 0) → wide ≡ false → Narrow → MatchBool wide Wide Narrow
narrow_gives true Wide Narrow few h = absurd (cc)
narrow_gives false Wide Narrow few h = h

-- what such an event gives the line gives
pub arrival_gives : (session : Session) (name hex : List ℕ) (event : Event FrameValue) → IsArrivalEvent session name hex event
    → (given : Given) → EventGives session event given → ArrivalGives session name hex given
arrival_gives session name hex event is given gives =
    let here = rw is.1 at gives in
    (is.0.samples, is.2, narrow_gives _ _ _ is.3 (is.0, is.4, here))

-- an event takes memory before its line is known
pub event_takes : (session : Session) (event : Event FrameValue) (given : Given) → EventGives session event given → TakesMemory given
event_takes session event given gives = rw gives.2 tt

arrival_takes : (session : Session) (stream : Option StreamSpec) (number : ℕ) (samples : List ℕ) (given : Given)
    (wide : Bool) → wide ≡ false
    → MatchBool wide (given ≡ Faults faults.BadLine)
    ((frame : FrameValue) × IsArrival stream samples frame × EventGives session (Arrive number frame) given)
    → TakesMemory given
arrival_takes session stream number samples given true few gives = absurd (cc)
arrival_takes session stream number samples given false few gives = event_takes session (Arrive number gives.0) given gives.2

-- so does the line of an arrival whose samples aren't too many
pub narrow_takes : (session : Session) (name hex : List ℕ)
    → is_too_wide (slice_get (streams_in session) (stream_named session.names name)) (length hex / 2) ≡ false
    → (given : Given) → ArrivalGives session name hex given → TakesMemory given
narrow_takes session name hex few given gives =
    let number = stream_named session.names name in
    let stream = slice_get (streams_in session) number in
    let half = half_of_digits hex gives.0 gives.1 in
    arrival_takes session stream number gives.0 given (is_too_wide stream (length gives.0)) (rw half at few) gives.2

wide_gives : (given : Given) (wide : Bool) (Other : Type 0) → wide ≡ true → given ≡ Faults faults.BadLine
    → MatchBool wide (given ≡ Faults faults.BadLine) Other
wide_gives given true Other many e = e
wide_gives given false Other many e = absurd (cc)

-- and one whose samples are is a fault
pub wide_faults : (session : Session) (name hex : List ℕ) → is_hex hex ≡ true
    → is_too_wide (slice_get (streams_in session) (stream_named session.names name)) (length hex / 2) ≡ true
    → ArrivalGives session name hex (Faults faults.BadLine)
wide_faults session name hex h many =
    let number = stream_named session.names name in
    let stream = slice_get (streams_in session) number in
    let read = decoded hex h in
    let half = half_of_digits hex read.0 read.1 in
    (read.0, read.1, wide_gives (Faults faults.BadLine) (is_too_wide stream (length read.0)) _ (rw half at many) refl)

-- why a line's samples make no frame is its fault, or want of memory
no_frame_faults : (session : Session) (name hex : List ℕ) (served : Option Geometry) (fault : Fault) → is_hex hex ≡ true
    → served ≡ geometry_in (slice_get (streams_in session) (stream_named session.names name)) → IsNoFrame served hex fault
    → MayFault (ArrivalGives session name hex) fault
no_frame_faults session name hex served faults.BadLine h e why =
    let stream = slice_get (streams_in session) (stream_named session.names name) in
    wide_faults session name hex h (too_wide stream (length hex / 2) (rw e at why.0) why.1)
no_frame_faults session name hex served faults.NoMemory h e why =
    let stream = slice_get (streams_in session) (stream_named session.names name) in
    narrow_takes session name hex (narrow stream (length hex / 2) (rw e at why))
no_frame_faults session name hex served faults.BadName h e why = absurd why
no_frame_faults session name hex served faults.BadBandwidth h e why = absurd why
no_frame_faults session name hex served faults.Range h e why = absurd why
no_frame_faults session name hex served (faults.BadHeader error) h e why = absurd why
no_frame_faults session name hex served (faults.BadChain error) h e why = absurd why
no_frame_faults session name hex served faults.BadLimits h e why = absurd why
no_frame_faults session name hex served (faults.BadBandwidthOf other) h e why = absurd why
no_frame_faults session name hex served (faults.OverloadOf other) h e why = absurd why
no_frame_faults session name hex served faults.TooLong h e why = absurd why

-- the same by what is kept of the session
pub arrival_faults : (kept : SessionValue) (name hex : List ℕ) (number : ℕ) (served : Option Geometry) (fault : Fault)
    → is_hex hex ≡ true → number ≡ stream_named kept.streams.names name
    → served ≡ slice_get kept.streams.geometries number → IsNoFrame served hex fault
    → (session : Session) → IsAt kept session → MayFault (ArrivalGives session name hex) fault
arrival_faults kept name hex number served fault h named found why session stands =
    no_frame_faults session name hex served fault h (served_named kept name number served session named found stands) why

-- a frame for which there is no memory is one that was read
pub arrival_lacks : (kept : SessionValue) (name hex : List ℕ) (number : ℕ) (served : Option Geometry) (frame : FrameValue)
    (fault : Fault) → is_hex hex ≡ true → number ≡ stream_named kept.streams.names name
    → served ≡ slice_get kept.streams.geometries number → IsFrameOf served hex frame → fault ≡ faults.NoMemory
    → (session : Session) → IsAt kept session → MayFault (ArrivalGives session name hex) fault
arrival_lacks kept name hex number served frame fault h named found is lacks session stands =
    let half = half_of_digits hex frame.samples is.decoded in
    let why : IsNoFrame served hex faults.NoMemory = rw half is.narrow in
    rw lacks (arrival_faults kept name hex number served faults.NoMemory h named found why session stands)
