-- What is checked of the words of streams, in order.
use Rattle.std.specs.Prelude.{ℕ, ◌≡◌, ◌≤◌, ◌<◌, ◌⊎◌, ⊤, Bool, nat_lt, if◌then◌else◌, List, [], ◌∷◌, ◌++◌}
use Rattle.std.specs.Prelude.{length, map}
use Rattle.std.specs.Prelude.{Option, Some, None, MatchOption, MatchResult, Result, Ok, Err, All}
use Rattle.std.specs.List.{list_any}
use Rattle.std.specs.Option.{option_map_or}
use Rattle.std.specs.Str.{bytes_eq}
use Rattle.cbs_account.specs.Admission.{Fits, Load, load_of, with_share}
use Rattle.cbs_account.specs.Balance.{IsBandwidth}
use Rattle.cbs_account.specs.declared.admission.AdmissionError.{AdmissionError}
use Rattle.cbs_account.specs.declared.admission.AdmissionError.TheVariants as shares
use Rattle.cbs_account.specs.declared.limits.TheConstants.{MOST_STREAMS}
use Rattle.filters.specs.OpsText.{ops_of}
use Rattle.filters.specs.declared.error.FilterError.{FilterError}
use Rattle.filters.specs.declared.error.FilterError.TheVariants as filter
use Rattle.filters.specs.declared.limits.TheConstants.{MOST_OPS}
use Rattle.filters.specs.declared.op.Op.{Op}
use Rattle.row_bands.specs.Height.{IsBandHeight}
use Rattle.serve_words.specs.Options.{takes_input}
use Rattle.serve_words.specs.StreamWords.{StreamAsked, stream_beside, stream_told, words_asked}
use Rattle.serve_words.specs.declared.checks.Asked.{Asked}
use Rattle.serve_words.specs.declared.checks.Checked.{Checked}
use Rattle.serve_words.specs.declared.checks.WordFault.{WordFault}
use Rattle.serve_words.specs.declared.checks.WordFault.TheVariants as faults
use Rattle.serve_words.specs.declared.request.ServeWords.{ServeWords}

-- what is wrong with the words
pub data Fault : Type 0 where
  BadBand : Fault
  NoStreams : Fault
  TooManyStreams : Fault
  BadStream : (word : List ℕ) → Fault
  RepeatedName : (name : List ℕ) → Fault
  -- the operations of the stream of this name
  BadOps : (error : FilterError) (name : List ℕ) → Fault
  -- its share of the workers
  NotAdmitted : (error : AdmissionError) (name : List ℕ) → Fault
  RepeatedFile : (name : List ℕ) → Fault

-- a fault of the program as it is told here; want of memory isn't
abbrev pub fault_told : WordFault → Option Fault
fault_told faults.BadBand = Some BadBand
fault_told faults.NoStreams = Some NoStreams
fault_told faults.TooManyStreams = Some TooManyStreams
fault_told (faults.BadStream word) = Some (BadStream word.now)
fault_told (faults.RepeatedName name) = Some (RepeatedName name.now)
fault_told (faults.Ops error name) = Some (BadOps error name.now)
fault_told (faults.Admission error name) = Some (NotAdmitted error name.now)
fault_told (faults.RepeatedFile name) = Some (RepeatedFile name.now)
fault_told faults.NoMemory = None

-- the fault is this one, or there was no memory
abbrev pub MayTell : WordFault → (Fault → Type 0) → Type 0
MayTell fault Holds = MatchOption (fault_told fault) ⊤ Holds

abbrev pub asked_told : Asked → StreamAsked
asked_told asked = stream_told asked.word

abbrev pub all_told : List Asked → List StreamAsked
all_told streams = map asked_told streams

-- the operations are those of the stream's word
abbrev pub IsSaid : Asked → Type 0
IsSaid asked = ops_of asked.word.operations.now ≡ Some asked.ops.items

abbrev pub AreSaid : List Asked → Type 0
AreSaid streams = All IsSaid streams

-- whether one of the streams has the name
abbrev pub is_named : List ℕ → List StreamAsked → Bool
is_named name streams = list_any (λ stream. bytes_eq name stream.name) streams

-- the operations of the stream of this name, or what is wrong with them
abbrev pub ops_given : List ℕ → Option (List Op) → Result (List Op) Fault
ops_given name None = Err (BadOps filter.BadOp name)
ops_given name (Some ops) =
    if nat_lt MOST_OPS (length ops) then Err (BadOps filter.TooManyOps name) else Ok ops

-- what comes of the first is passed on
abbrev pub then_given : {S T : Type 0} → (S → Result T Fault) → Result S Fault → Result T Fault
then_given next (Ok first) = next first
then_given next (Err fault) = Err fault

-- a stream behind those before it, or what is wrong with it: its name, then its operations
abbrev pub stream_given : List StreamAsked → StreamAsked → Result StreamAsked Fault
stream_given before stream =
    if is_named stream.name before then Err (RepeatedName stream.name)
    else then_given (λ ops. Ok stream) (ops_given stream.name (ops_of stream.operations))

-- no stream is read from standard input where that is taken
module _ (is_input_taken : Bool) where
  -- the same of a word, whose form comes first
  abbrev pub word_given : List StreamAsked → List ℕ → Result StreamAsked Fault
  word_given before word =
      option_map_or (stream_given before) (stream_beside is_input_taken word) (Err (BadStream word))

  -- the streams of words behind those before them, or the first fault
  abbrev pub words_given : List StreamAsked → List (List ℕ) → Result (List StreamAsked) Fault
  words_given before [] = Ok before
  words_given before (word ∷ words) =
      then_given (λ stream. words_given (before ++ stream ∷ []) words) (word_given before word)

-- the shares of streams come to a load one after the other: the first that isn't admitted, if one isn't
abbrev pub AdmissionGives : Load → List StreamAsked → Option Fault → Type 0
AdmissionGives load [] found = found ≡ None
AdmissionGives load (stream ∷ more) found =
    ((¬ IsBandwidth stream.q stream.t) × (found ≡ Some (NotAdmitted shares.BadBandwidth stream.name)))
    ⊎ (IsBandwidth stream.q stream.t × (¬ Fits (with_share stream.q stream.t load))
    × (found ≡ Some (NotAdmitted shares.Overload stream.name)))
    ⊎ (IsBandwidth stream.q stream.t × Fits (with_share stream.q stream.t load)
    × AdmissionGives (with_share stream.q stream.t load) more found)

-- the streams where their shares are admitted to so many workers, or the first fault
abbrev pub SharesGive : ℕ → List StreamAsked → Result (List StreamAsked) Fault → Type 0
SharesGive workers streams (Ok asked) = (asked ≡ streams) × AdmissionGives (load_of workers []) streams None
SharesGive workers streams (Err fault) = AdmissionGives (load_of workers []) streams (Some fault)

-- no stream is asked for, by the words or by a control
abbrev pub AskForNone : ServeWords → Type 0
AskForNone words = (words.streams.items ≡ []) × (words.control ≡ None)

-- the streams that the words ask for, or the first fault: the band, the number of streams, word by word, and
-- then the shares
abbrev pub ChecksGive : ServeWords → Result (List StreamAsked) Fault → Type 0
ChecksGive words given =
    ((¬ IsBandHeight words.band) × (given ≡ Err BadBand))
    ⊎ (IsBandHeight words.band × AskForNone words × (given ≡ Err NoStreams))
    ⊎ (IsBandHeight words.band × (MOST_STREAMS < length words.streams.items) × (given ≡ Err TooManyStreams))
    ⊎ (IsBandHeight words.band × (¬ AskForNone words) × (length words.streams.items ≤ MOST_STREAMS)
    × MatchResult (words_given (takes_input words) [] (words_asked words.streams.items))
    (λ streams. SharesGive words.workers streams given) (λ fault. given ≡ Err fault))

-- the options are those of the words
pub record HasOptions (words : ServeWords) (checked : Checked) : Type 0 where
  pub workers : checked.workers ≡ words.workers
  pub quantum : checked.quantum ≡ words.quantum
  pub journal : checked.journal ≡ words.journal
  pub band : checked.height.rows ≡ words.band
