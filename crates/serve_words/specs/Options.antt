-- What the words give for each option, by what clap found of them.
use Rattle.std.specs.Prelude.{ℕ, ◌+◌, ◌≡◌, ◌<◌, ◌^◌, ◌⊎◌, Bool, true, false, min, max, List, [], codes}
use Rattle.std.specs.Prelude.{Option, Some, None, option_map, unwrap_or}
use Rattle.std.specs.Option.{option_map_or, option_or}
use Rattle.std.specs.Str.{bytes_eq}
use Rattle.std.specs.Str.Parse.{IsNumeral, digits_value, without_leading_plus}
use Rattle.clap.specs.Faults.{fault_of}
use Rattle.clap.specs.Matches.{found_of}
use Rattle.clap.specs.Simple.{subcommand_of}
use Rattle.clap.specs.Walk.{Row, all_of, first_of, one_of, rows_of}
use Rattle.clap.specs.declared.parser.matches.ArgMatches.{ArgMatches}
use Rattle.cbs_account.specs.declared.limits.TheConstants.{MOST_ENTRIES, MOST_QUANTUM, MOST_STREAMS, MOST_WORKERS}
use Rattle.serve_words.specs.CommandLine.{y4mserve}
use Rattle.serve_words.specs.StreamWords.{words_asked}
use Rattle.serve_words.specs.declared.request.FilterWords.{FilterWords}
use Rattle.serve_words.specs.declared.request.Request.{Request}
use Rattle.serve_words.specs.declared.request.Request.TheVariants.{Filter, Replay, Serve}
use Rattle.serve_words.specs.declared.request.ServeWords.{ServeWords}
use Rattle.serve_words.specs.declared.live.TheConstants.{MICROSECONDS}

-- what was found for the options of a command
abbrev pub found_in : ArgMatches → List Row
found_in matches = rows_of (found_of matches)

-- the number is the one that the text writes, where it writes one of 32 bits
abbrev pub IsOfText : List ℕ → ℕ → Type 0
IsOfText text number =
    IsNumeral 10 (without_leading_plus text) → digits_value 10 (without_leading_plus text) < 2 ^ 32
    → number ≡ digits_value 10 (without_leading_plus text)

-- the number is that of the option of this name, and where the words have none it is the other
pub record IsNumberOf (found : List Row) (name : List ℕ) (default number : ℕ) : Type 0 where
  pub none : one_of name found ≡ None → number ≡ default
  pub some : (text : List ℕ) → one_of name found ≡ Some text → IsOfText text number

-- the same, kept within a range
abbrev pub IsKeptOf : List Row → (name : List ℕ) → (default least most number : ℕ) → Type 0
IsKeptOf found name default least most number =
    (given : ℕ) × IsNumberOf found name default given × (number ≡ min (max given least) most)

-- the number is that of the option of this name, where the words have it
pub record IsNumberIn (found : List Row) (name : List ℕ) (number : Option ℕ) : Type 0 where
  pub none : one_of name found ≡ None → number ≡ None
  pub some : (text : List ℕ) → one_of name found ≡ Some text
      → IsNumeral 10 (without_leading_plus text) → digits_value 10 (without_leading_plus text) < 2 ^ 32
      → number ≡ Some (digits_value 10 (without_leading_plus text))

-- the flag is the one of this name
pub record IsFlagOf (found : List Row) (name : List ℕ) (flag : Bool) : Type 0 where
  pub none : one_of name found ≡ None → flag ≡ false
  pub raised : one_of name found ≡ Some (codes "true") → flag ≡ true
  pub left : one_of name found ≡ Some (codes "false") → flag ≡ false

-- the first text of this name, and where the words have none the empty one
abbrev pub text_of : List Row → (name : List ℕ) → List ℕ
text_of found name = unwrap_or (first_of name found) []

-- all texts of this name, in the order in which they stand
abbrev pub texts_of : List Row → (name : List ℕ) → List (List ℕ)
texts_of found name = unwrap_or (all_of name found) []

-- each of these is what was found for the option of its name
pub record HasFilterOptions (found : List Row) (words : FilterWords) : Type 0 where
  pub operations : words.operations.now ≡ text_of found (codes "OPS")
  pub band : IsNumberOf found (codes "band") 16 words.band
  pub threads : IsNumberOf found (codes "threads") 2 words.threads
  pub quiet : IsFlagOf found (codes "quiet") words.is_quiet

pub record HasServeOptions (found : List Row) (words : ServeWords) : Type 0 where
  pub workers : IsKeptOf found (codes "workers") 2 1 MOST_WORKERS words.workers
  pub band : IsNumberOf found (codes "band") 16 words.band
  pub quantum : IsKeptOf found (codes "quantum") 8 1 MOST_QUANTUM words.quantum
  pub journal : IsKeptOf found (codes "journal") 65536 (MOST_STREAMS + 2) MOST_ENTRIES words.journal
  pub control : option_map (λ file. file.now) words.control ≡ first_of (codes "control") found
  pub moment : IsNumberIn found (codes "moment") words.moment
  pub trace : option_map (λ file. file.now) words.trace ≡ first_of (codes "trace") found
  pub quiet : IsFlagOf found (codes "quiet") words.is_quiet
  pub streams : words_asked words.streams.items ≡ texts_of found (codes "STREAM")

-- the microseconds of a moment where time passes: those that are told, and 30 where streams come and go
abbrev pub microseconds_of : ServeWords → Option ℕ
microseconds_of words = option_or words.moment (option_map (λ _. MICROSECONDS) words.control)

-- whether the control is standard input
abbrev pub takes_input : ServeWords → Bool
takes_input words = option_map_or (λ file. bytes_eq file.now (codes "-")) words.control false

-- the subcommand of this name was met, with what was found behind it
abbrev pub Meets : Option (List ℕ × List Row) → (name : List ℕ) → List Row → Type 0
Meets met name found = met ≡ Some (name, found)

-- one of the three subcommands was met
abbrev pub MeetsOne : Option (List ℕ × List Row) → Type 0
MeetsOne met = (found : List Row)
    × (Meets met (codes "filter") found ⊎ Meets met (codes "replay") found ⊎ Meets met (codes "serve") found)

-- the request is that of the subcommand that was met
abbrev pub IsRequestOf : Option (List ℕ × List Row) → Request → Type 0
IsRequestOf met (Filter words) =
    (found : List Row) × Meets met (codes "filter") found × HasFilterOptions found words
IsRequestOf met (Serve words) =
    (found : List Row) × Meets met (codes "serve") found × HasServeOptions found words
IsRequestOf met Replay = (found : List Row) × Meets met (codes "replay") found

-- clap finds no fault in these words, which stand behind the program's name
abbrev pub AreTaken : (words : List (List ℕ)) → Type 0
AreTaken words = fault_of y4mserve words ≡ []

-- clap takes the words, and they ask for the request
abbrev pub AskFor : (words : List (List ℕ)) → Request → Type 0
AskFor words request = AreTaken words × IsRequestOf (subcommand_of y4mserve words) request
