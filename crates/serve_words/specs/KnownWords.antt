-- What clap makes of known words, which stand behind the program's name.
use Rattle.std.specs.Prelude.{ℕ, ◌≡◌, ◌≤◌, Bool, true, false, List, [], ◌∷◌, length, All, codes}
use Rattle.std.specs.Prelude.{Option, None, Some, option_map}
use Rattle.clap.specs.Faults.{fault_of}
use Rattle.clap.specs.Kinds.{Kinds}
use Rattle.clap.specs.Lexer.{strip_byte, usize_max}
use Rattle.clap.specs.declared.error.kind.ErrorKind.TheVariants as kind
use Rattle.serve_words.specs.CommandLine.{y4mserve}
use Rattle.serve_words.specs.Options.{AreTaken, AskFor}
use Rattle.serve_words.specs.StreamWords.{words_asked}
use Rattle.serve_words.specs.declared.request.Request.{Request}
use Rattle.serve_words.specs.declared.request.Request.TheVariants.{Filter, Replay, Serve}
use Rattle.serve_words.specs.declared.request.ServeWords.{ServeWords}

-- the word doesn't begin with a hyphen (45), as an option does
abbrev pub IsNoOption : (word : List ℕ) → Type 0
IsNoOption word = strip_byte 45 word ≡ None

-- a request to filter by these options
abbrev pub ToFilter : (operations : List ℕ) (band threads : ℕ) (is_quiet : Bool) → Request → Type 0
ToFilter operations band threads is_quiet (Filter words) = (words.operations.now ≡ operations)
    × (words.band ≡ band) × (words.threads ≡ threads) × (words.is_quiet ≡ is_quiet)
ToFilter operations band threads is_quiet Replay = ⊥
ToFilter operations band threads is_quiet (Serve words) = ⊥

-- the options of a request to serve
pub record ServeOptions : Type 0 where
  pub workers : ℕ
  pub band : ℕ
  pub quantum : ℕ
  pub journal : ℕ
  pub control : Option (List ℕ)
  pub moment : Option ℕ
  pub trace : Option (List ℕ)
  pub is_quiet : Bool

-- those that it has where the words have none
abbrev pub no_option : ServeOptions
no_option = record {
  workers = 2;
  band = 16;
  quantum = 8;
  journal = 65536;
  control = None;
  moment = None;
  trace = None;
  is_quiet = false;
}

pub record AreOptions (options : ServeOptions) (words : ServeWords) : Type 0 where
  pub workers : words.workers ≡ options.workers
  pub band : words.band ≡ options.band
  pub quantum : words.quantum ≡ options.quantum
  pub journal : words.journal ≡ options.journal
  pub control : option_map (λ file. file.now) words.control ≡ options.control
  pub moment : words.moment ≡ options.moment
  pub trace : option_map (λ file. file.now) words.trace ≡ options.trace
  pub quiet : words.is_quiet ≡ options.is_quiet

-- one to serve these streams by these options
abbrev pub ToServe : (streams : List (List ℕ)) → ServeOptions → Request → Type 0
ToServe streams options (Filter words) = ⊥
ToServe streams options Replay = ⊥
ToServe streams options (Serve words) =
    (words_asked words.streams.items ≡ streams) × AreOptions options words

-- clap takes the words, and what they ask for is such a request
abbrev pub AreKnown : (words : List (List ℕ)) → (Request → Type 0) → Type 0
AreKnown words Is = AreTaken words × ((request : Request) → AskFor words request → Is request)

-- clap finds these faults in the words, of which one comes
abbrev pub FailBy : (words : List (List ℕ)) → Kinds → Type 0
FailBy words kinds = fault_of y4mserve words ≡ kinds

pub record KnownWords : Type 0 where
  pub filter : (operations : List ℕ) → IsNoOption operations
      → AreKnown (codes "filter" ∷ operations ∷ []) (ToFilter operations 16 2 false)
  pub filter_by : AreKnown
      (codes "filter" ∷ codes "--threads=1" ∷ codes "--band" ∷ codes "32" ∷ codes "-q" ∷ codes "invert" ∷ [])
      (ToFilter (codes "invert") 32 1 true)
  pub replay : AreKnown (codes "replay" ∷ []) (λ request. request ≡ Replay)
  pub serve : (streams : List (List ℕ)) → All IsNoOption streams → length streams ≤ usize_max
      → AreKnown (codes "serve" ∷ streams) (ToServe streams no_option)
  pub serve_by : AreKnown
      (codes "serve" ∷ codes "--workers" ∷ codes "1" ∷ codes "--quantum=4" ∷ codes "a:in:out:1:2:invert" ∷ [])
      (ToServe (codes "a:in:out:1:2:invert" ∷ []) (record no_option { workers = 1; quantum = 4 }))
  pub serve_live : AreKnown (codes "serve" ∷ codes "--control" ∷ codes "-" ∷ codes "--moment=40" ∷ [])
      (ToServe [] (record no_option { control = Some (codes "-"); moment = Some 40 }))
  pub help : FailBy (codes "--help" ∷ []) (kind.DisplayHelp ∷ [])
  pub help_of : FailBy (codes "filter" ∷ codes "-h" ∷ []) (kind.DisplayHelp ∷ [])
  pub version : FailBy (codes "--version" ∷ []) (kind.DisplayVersion ∷ [])
  pub none : FailBy [] (kind.MissingSubcommand ∷ [])
  pub no_operations : FailBy (codes "filter" ∷ []) (kind.MissingRequiredArgument ∷ [])
  pub unknown : FailBy (codes "filter" ∷ codes "--nothing" ∷ []) (kind.UnknownArgument ∷ [])
  pub threads : FailBy (codes "filter" ∷ codes "--threads=3" ∷ []) (kind.ValueValidation ∷ [])
  pub moment : FailBy (codes "serve" ∷ codes "--moment=0" ∷ []) (kind.ValueValidation ∷ [])
