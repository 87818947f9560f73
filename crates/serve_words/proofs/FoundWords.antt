-- The request that is asked for by what clap found behind a subcommand.
use Rattle.std.proofs.Common.{◌≡◌, ◌∙◌, ℕ, ap, codes, subst, sym, Bool, List, [], Option, Some, None, false, true, true≢false, refl}
use Rattle.std.specs.Prelude.{◌<◌, ◌+◌, ◌^◌, max, min, unwrap_or}
use Rattle.std.specs.Option.{option_map_or}
use Rattle.std.specs.Str.{bytes_eq}
use Rattle.std.specs.Str.Parse.{IsNumeral, digits_value, without_leading_plus}
use Rattle.clap.specs.Values.{bool_text}
use Rattle.clap.specs.Walk.{Row, Text, first_of, one_of}
use Rattle.cbs_account.specs.declared.limits.TheConstants.{MOST_ENTRIES, MOST_QUANTUM, MOST_STREAMS, MOST_WORKERS}
use Rattle.serve_words.specs.KnownWords.{ServeOptions, ToFilter, ToServe}
use Rattle.serve_words.specs.Options.{HasFilterOptions, HasServeOptions, IsFlagOf, IsKeptOf, IsNumberIn, IsNumberOf}
use Rattle.serve_words.specs.Options.{IsRequestOf, text_of, texts_of}
use Rattle.serve_words.specs.declared.request.Request.{Request}
use Rattle.serve_words.specs.declared.request.Request.TheVariants.{Filter, Replay, Serve}

-- what was found for the option writes this number
abbrev pub Writes : List Row → (name : Text) → ℕ → Type 0
Writes found name n = (text : Text) × (one_of name found ≡ Some text) × IsNumeral 10 (without_leading_plus text)
    × (digits_value 10 (without_leading_plus text) ≡ n) × (n < 2 ^ 32)

-- and what was found behind `filter` this
pub record FilterFound (found : List Row) (operations : Text) (band threads : ℕ) (is_quiet : Bool) : Type 0 where
  pub operations_are : text_of found (codes "OPS") ≡ operations
  pub writes_band : Writes found (codes "band") band
  pub writes_threads : Writes found (codes "threads") threads
  pub quiet_is : one_of (codes "quiet") found ≡ Some (bool_text is_quiet)

-- the same of an option that the words may lack
abbrev pub MayWrite : List Row → (name : Text) → Option ℕ → Type 0
MayWrite found name None = one_of name found ≡ None
MayWrite found name (Some n) = Writes found name n

-- or behind `serve`, whose numbers are within their ranges
pub record ServeFound (found : List Row) (streams : List Text) (options : ServeOptions) : Type 0 where
  pub streams_are : texts_of found (codes "STREAM") ≡ streams
  pub writes_workers : Writes found (codes "workers") options.workers
  pub writes_band : Writes found (codes "band") options.band
  pub writes_quantum : Writes found (codes "quantum") options.quantum
  pub writes_journal : Writes found (codes "journal") options.journal
  pub control_is : first_of (codes "control") found ≡ options.control
  pub writes_moment : MayWrite found (codes "moment") options.moment
  pub trace_is : first_of (codes "trace") found ≡ options.trace
  pub quiet_is : one_of (codes "quiet") found ≡ Some (bool_text options.is_quiet)
  pub keeps_workers : min (max options.workers 1) MOST_WORKERS ≡ options.workers
  pub keeps_quantum : min (max options.quantum 1) MOST_QUANTUM ≡ options.quantum
  pub keeps_journal : min (max options.journal (MOST_STREAMS + 2)) MOST_ENTRIES ≡ options.journal

number_is : {found : List Row} {name : Text} {default number n : ℕ} → Writes found name n
    → IsNumberOf found name default number → number ≡ n
number_is writes given = given.some writes.0 writes.1 writes.2 (rw writes.3 writes.4) ∙ writes.3

kept_is : {found : List Row} {name : Text} {default number n : ℕ} (least most : ℕ) → Writes found name n → min (max n least) most ≡ n
    → IsKeptOf found name default least most number → number ≡ n
kept_is least most writes keeps given = given.2 ∙ ap (λ n. min (max n least) most) (number_is writes given.1) ∙ keeps

may_be : {found : List Row} {name : Text} {number : Option ℕ} (n : Option ℕ) → MayWrite found name n
    → IsNumberIn found name number → number ≡ n
may_be None none given = given.none none
may_be (Some n) writes given = given.some writes.0 writes.1 writes.2 (rw writes.3 writes.4) ∙ ap Some writes.3

flag_is : {found : List Row} {name : Text} {flag : Bool} (is_raised : Bool) → one_of name found ≡ Some (bool_text is_raised)
    → IsFlagOf found name flag → flag ≡ is_raised
flag_is true is given = given.raised is
flag_is false is given = given.left is

-- whether the subcommand that was met has this name, and what was found behind it
abbrev is_named : Text → Option (Text × List Row) → Bool
is_named name met = option_map_or (λ met. bytes_eq met.0 name) met false

abbrev rows_of : Option (Text × List Row) → List Row
rows_of met = (unwrap_or met ([], [])).1

pub to_filter : {operations : Text} {band threads : ℕ} {is_quiet : Bool} (found : List Row) (request : Request)
    → IsRequestOf (Some (codes "filter", found)) request → FilterFound found operations band threads is_quiet
    → ToFilter operations band threads is_quiet request
to_filter {is_quiet} found (Filter words) asked is =
    let has = subst (λ found. HasFilterOptions found words) (ap rows_of (sym asked.1)) asked.2 in (
      has.operations ∙ is.operations_are,
      number_is is.writes_band has.band,
      number_is is.writes_threads has.threads,
      flag_is is_quiet is.quiet_is has.quiet,
    )
to_filter found Replay asked is = absurd (true≢false (ap (is_named (codes "filter")) asked.1))
to_filter found (Serve words) asked is = absurd (true≢false (ap (is_named (codes "filter")) asked.1))

pub to_replay : (found : List Row) (request : Request) → IsRequestOf (Some (codes "replay", found)) request → request ≡ Replay
to_replay found (Filter words) asked = absurd (true≢false (ap (is_named (codes "replay")) asked.1))
to_replay found Replay asked = refl
to_replay found (Serve words) asked = absurd (true≢false (ap (is_named (codes "replay")) asked.1))

pub to_serve : {streams : List Text} {options : ServeOptions} (found : List Row) (request : Request)
    → IsRequestOf (Some (codes "serve", found)) request → ServeFound found streams options → ToServe streams options request
to_serve found (Filter words) asked is = absurd (true≢false (ap (is_named (codes "serve")) asked.1))
to_serve found Replay asked is = absurd (true≢false (ap (is_named (codes "serve")) asked.1))
to_serve {options = options} found (Serve words) asked is =
    let has = subst (λ found. HasServeOptions found words) (ap rows_of (sym asked.1)) asked.2 in (
      has.streams ∙ is.streams_are,
      record {
        workers = kept_is _ _ is.writes_workers is.keeps_workers has.workers;
        band = number_is is.writes_band has.band;
        quantum = kept_is _ _ is.writes_quantum is.keeps_quantum has.quantum;
        journal = kept_is _ _ is.writes_journal is.keeps_journal has.journal;
        control = has.control ∙ is.control_is;
        moment = may_be options.moment is.writes_moment has.moment;
        trace = has.trace ∙ is.trace_is;
        quiet = flag_is options.is_quiet is.quiet_is has.quiet;
      },
    )
