-- What comes of opening the streams of a run.
use Rattle.std.specs.Prelude.{ℕ, ◌≡◌, List, [], ◌∷◌, map, Option, Some, None, Result, Ok, Err, MatchResult}
use Rattle.std.specs.Borrow.{Bor}
use Rattle.std.specs.List.{flat_map}
use Rattle.filters.specs.Chain.{chain_of}
use Rattle.filters.specs.Refusal.{IsChainRefusedAs}
use Rattle.filters.specs.declared.error.FilterError.{FilterError}
use Rattle.frame_view.specs.declared.geometry.Geometry.{Geometry}
use Rattle.row_bands.specs.declared.band_height.BandHeight.{BandHeight}
use Rattle.y4m_stream.specs.Failures.{one_more}
use Rattle.y4m_stream.specs.Front.{StandsAtHeader}
use Rattle.y4m_stream.specs.declared.device.Sink as sinks
use Rattle.y4m_stream.specs.declared.device.Source as sources
use Rattle.y4m_stream.specs.declared.fault.ReadFault.{ReadFault}
use Rattle.y4m_stream.specs.Reader.{IsOfHeader, IsOpened, ReaderState}
use Rattle.serve_core.specs.Setup.{StreamSpec}
use Rattle.y4m_header.specs.declared.limits.TheConstants.{MOST_FRAMES}
use Rattle.serve_hub.specs.Seats.{opened_streams}
use Rattle.serve_client.specs.Clients.{ClientStart}
use Rattle.serve_work.specs.Sessions.{starts_of}
use Rattle.serve_words.specs.declared.checks.Asked.{Asked}
use Rattle.serve_report.specs.declared.serve.opening.Entrant.{Entrant}
use Rattle.serve_report.specs.declared.serve.opening.Tried.{Tried}
use Rattle.serve_report.specs.declared.serve.ready.Ready.{Ready}
use Rattle.serve_report.specs.declared.serve.report.StreamStop.{StreamStop}
use Rattle.serve_report.specs.declared.serve.report.StreamStop.TheVariants as stops

-- what an output holds, where that is known, and how many of its calls failed
pub record Output : Type 0 where
  pub contents : Option (List ℕ)
  pub failures : ℕ

-- what a stream is served with, what it is read from, and what it is written to
pub record Entry : Type 0 where
  pub spec : StreamSpec
  pub input : ReaderState × Output

-- what came of opening a stream: how many files were opened and how many made for it, and its entry, or why
-- it takes no part
pub record Opening : Type 0 where
  pub name : Bor (List ℕ)
  pub opened : ℕ
  pub made : ℕ
  pub entry : Result Entry StreamStop

-- what a stream is served with, where its frames have this size: its operations, in bands of this height, and
-- its share; 4 of its frames may wait and 4 of its images, and 16777216 frames may come
abbrev pub spec_asked : BandHeight → Asked → Geometry → StreamSpec
spec_asked height asked geometry = record {
  geometry = geometry;
  chain = chain_of asked.ops.items geometry height;
  maximum = asked.word.q;
  period = asked.word.t;
  queue = 4;
  outbox = 4;
  frames = MOST_FRAMES;
}

abbrev pub IsAsked : BandHeight → Asked → StreamSpec → Type 0
IsAsked height asked spec = spec ≡ spec_asked height asked spec.geometry

-- opening, or making, a file of the name came to one with these bytes, where they are known, or to none
abbrev pub OfName : Type 1
OfName = (name : List ℕ) (came : Option (Option (List ℕ))) → Type 0

-- no header stands at the front of these bytes, for this reason
abbrev pub HasNoHeader : Option (List ℕ) → ReadFault → Type 0
HasNoHeader bytes fault = (left : Option (List ℕ)) × StandsAtHeader fault bytes left

-- a file of the input's name was opened, and its header was read
pub record HasInput (OpenGives : OfName) (asked : Asked) (reader : ReaderState) : Type 0 where
  pub bytes : Option (List ℕ)
  pub input : OpenGives asked.word.input.now (Some bytes)
  pub behind : IsOpened bytes 0 reader

-- one was opened that has no header, for this reason
pub record LacksHeader (OpenGives : OfName) (asked : Asked) (fault : ReadFault) : Type 0 where
  pub bytes : Option (List ℕ)
  pub input : OpenGives asked.word.input.now (Some bytes)
  pub none : HasNoHeader bytes fault

-- the operations are refused, for this reason, for frames of the size in its header
pub record LacksChain (OpenGives : OfName) (height : BandHeight) (asked : Asked) (error : FilterError)
    : Type 0 where
  pub reader : ReaderState
  pub input : HasInput OpenGives asked reader
  pub geometry : Geometry
  pub size : IsOfHeader reader.header geometry
  pub refused : IsChainRefusedAs error (chain_of asked.ops.items geometry height)

-- the entry that a word asks for: it is read from behind the header of a file of the input's name, and
-- written to one of the output's name, of which no call failed yet
pub record IsEntry (OpenGives CreateGives : OfName) (height : BandHeight) (asked : Asked)
    (entry : Entry) : Type 0 where
  pub spec : IsAsked height asked entry.spec
  pub size : IsOfHeader entry.input.0.header entry.spec.geometry
  pub input : HasInput OpenGives asked entry.input.0
  pub output : CreateGives asked.word.output.now (Some entry.input.1.contents)
  pub no_failure : entry.input.1.failures ≡ 0

-- why a word has no entry: its input wasn't opened, or has no header, or its operations make no chain, or its
-- output wasn't made
abbrev pub HasNoEntry : (OpenGives CreateGives : OfName) → BandHeight → Asked → StreamStop → Type 0
HasNoEntry OpenGives CreateGives height asked stops.Open = OpenGives asked.word.input.now None
HasNoEntry OpenGives CreateGives height asked (stops.Read fault) = LacksHeader OpenGives asked fault
HasNoEntry OpenGives CreateGives height asked (stops.Ops error) = LacksChain OpenGives height asked error
HasNoEntry OpenGives CreateGives height asked stops.Create = CreateGives asked.word.output.now None
HasNoEntry OpenGives CreateGives height asked stop = ⊥

-- one more file was asked for to be written to, where it came to that
abbrev pub made_before : StreamStop → ℕ → ℕ
made_before stops.Create made = one_more made
made_before stop made = made

abbrev pub made_after : {T : Type 0} → Result T StreamStop → ℕ → ℕ
made_after (Ok entry) made = one_more made
made_after (Err stop) made = made_before stop made

-- what comes of a word: one file is opened, and at most one is made
pub record IsOpening (OpenGives CreateGives : OfName) (height : BandHeight) (asked : Asked)
    (opening : Opening) : Type 0 where
  pub name : opening.name ≡ asked.word.name
  pub opened : opening.opened ≡ 1
  pub made : opening.made ≡ made_after opening.entry 0
  pub came : MatchResult opening.entry (IsEntry OpenGives CreateGives height asked)
      (HasNoEntry OpenGives CreateGives height asked)

-- a stream of a run, and why it takes no part in the session, if it doesn't
abbrev pub stop_of : Result Entry StreamStop → Option StreamStop
stop_of (Ok entry) = None
stop_of (Err stop) = Some stop

abbrev pub entrant_of : Opening → Entrant
entrant_of opening = record { name = opening.name; stop = stop_of opening.entry }

-- the entries of the streams that take part, in order
abbrev pub entry_in : Result Entry StreamStop → List Entry
entry_in (Ok entry) = entry ∷ []
entry_in (Err stop) = []

abbrev pub entries_in : List Opening → List Entry
entries_in openings = flat_map (λ opening. entry_in opening.entry) openings

abbrev pub specs_in : List Opening → List StreamSpec
specs_in openings = map (λ entry. entry.spec) (entries_in openings)

abbrev pub inputs_in : List Opening → List (ReaderState × Output)
inputs_in openings = map (λ entry. entry.input) (entries_in openings)

-- what their clients begin with, where an epoch's journal has at most so many entries
abbrev pub starts_in : (journal : ℕ) → List Opening → List ClientStart
starts_in journal openings =
    starts_of (λ output. output.contents) (λ output. output.failures)
    (opened_streams journal 0 (specs_in openings)) (inputs_in openings)

-- the same of what the program has
abbrev pub input_of : {W : Type 0} → (contents : W → Option (List ℕ)) (failures : W → ℕ) → ReaderState × W
    → ReaderState × Output
input_of contents failures input =
    (input.0, record { contents = contents input.1; failures = failures input.1 })

module _ {R W : Type 0} {source : sources.Ghosts R} {sink : sinks.Ghosts W} where
  abbrev pub entry_of : Ready R W source sink → Entry
  entry_of ready = record { spec = ready.spec; input = input_of sink.contents sink.failures ready.input }

  abbrev pub come_of : Result (Ready R W source sink) StreamStop → Result Entry StreamStop
  come_of (Ok ready) = Ok (entry_of ready)
  come_of (Err stop) = Err stop

  abbrev pub opening_of : Tried R W source sink → Opening
  opening_of tried = record {
    name = tried.name;
    opened = tried.opened;
    made = tried.made;
    entry = come_of tried.ready;
  }

  abbrev pub openings_of : List (Tried R W source sink) → List Opening
  openings_of tried = map opening_of tried
