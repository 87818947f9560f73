-- The words of streams behind `serve`.
use Rattle.std.proofs.Common.{◌≡◌, ◌∙◌, ◌<◌, ◌≤◌, ap, sym, refl, arith, ℕ, List, [], ◌∷◌, ◌++◌, suc, length}
use Rattle.std.proofs.Common.{Option, Some, is_some, codes, false, true, append-nil, append_assoc}
use Rattle.std.specs.Prelude.{◌==◌, fold, nat_lt, slice_index_or}
use Rattle.std.specs.List.{All}
use Rattle.std.proofs.lemmas.Bool.Decides.{nat_tests}
use Rattle.clap.specs.Faults.{check_fault, defaults_fault, entered_fault, level_fault, settle_fault, values_fault, walk_fault}
use Rattle.clap.specs.Kinds.{Kinds, or_else, range_kinds}
use Rattle.clap.specs.Lexer.{usize_max}
use Rattle.clap.specs.Simple.{Shape, built, entered, names_of, subcommand_of}
use Rattle.clap.specs.Walk.{Names, Rule, Text, Walk, finished, idle, nothing_held, positional, settled, walk, walk_from, walked}
use Rattle.clap.proofs.FaultLemmas.{stopped_fault}
use Rattle.clap.proofs.OnLiterals.{clap_on_literals}
use Rattle.clap.proofs.WalkLemmas.{walk_stopped}
use Rattle.serve_words.specs.CommandLine.{y4mserve}
use Rattle.serve_words.specs.CommandLine as line
use Rattle.serve_words.specs.KnownWords.{IsNoOption}
use Rattle.serve_words.specs.Options.{AreTaken}
use Rattle.serve_words.proofs.PlainWords.{at, goes_on, late_fault, level_passes, no_turn_fault}

abbrev pub serve : Shape
serve = slice_index_or (built y4mserve).subs 2 (built y4mserve).top

-- the walk after these words
abbrev pub after : List Text → Walk
after seen = at positional 1 (record { rows = []; pending = Some (codes "STREAM", seen); skip = 0 })

-- each of the words is such a one
abbrev AllPlain : List Text → Type 0
AllPlain words = All IsNoOption words

rest : (word : Text) (words : List Text) → AllPlain (word ∷ words) → AllPlain words
rest word words plain = λ k default lt. plain (suc k) default (omega arith)

one_more : (word : Text) (seen : List Text) → IsNoOption word → walked serve.rules [] (after seen) word ≡ after (seen ++ word ∷ [])
one_more word seen plain = goes_on serve positional 1 (after seen).held word plain refl refl

walk_on : (words seen : List Text) → AllPlain words → fold (walked serve.rules []) (after seen) words ≡ after (seen ++ words)
walk_on [] seen plain = ap after (sym (append-nil seen))
walk_on (word ∷ words) seen plain =
    ap (λ (w : Walk). fold (walked serve.rules []) w words) (one_more word seen (plain 0 word (omega arith)))
    ∙ walk_on words (seen ++ word ∷ []) (rest word words plain) ∙ ap after (append_assoc seen (word ∷ []) words)

none_on : (words seen : List Text) → AllPlain words → walk_fault serve [] (after seen) words ≡ []
unfolding walk_fault
none_on [] seen plain = refl
none_on (word ∷ words) seen plain =
    ap (λ kinds. or_else kinds (walk_fault serve [] (walked serve.rules [] (after seen) word) words))
    (no_turn_fault serve positional 1 (after seen).held word (plain 0 word (omega arith)) refl refl refl)
    ∙ ap (λ (w : Walk). walk_fault serve [] w words) (one_more word seen (plain 0 word (omega arith)))
    ∙ none_on words (seen ++ word ∷ []) (rest word words plain)

-- ---- after the walk

abbrev streams : Rule
streams = slice_index_or serve.rules 8 line.streams

texts_pass : (words : List Text) → values_fault streams words ≡ []
texts_pass [] = refl
texts_pass (word ∷ words) = texts_pass words

in_range : (n : ℕ) → 0 < n → n ≤ usize_max → range_kinds 1 usize_max n ≡ []
in_range n some fits =
    let not_none : (n == 0) ≡ false = grind (arith, nat_tests) in
    let not_few : nat_lt n 1 ≡ false = grind (arith, nat_tests) in
    let not_many : nat_lt usize_max n ≡ false = grind (arith, nat_tests) in
    rw (not_none, not_few, not_many) refl

module _ (word : Text) (words : List Text) (plain : AllPlain (word ∷ words)) (fits : length (word ∷ words) ≤ usize_max) where
  first : walked serve.rules [] (walk_from nothing_held) word ≡ after (word ∷ [])
  first = goes_on serve idle 1 nothing_held word (plain 0 word (omega arith)) refl refl

  walks : walk serve.rules [] nothing_held (word ∷ words) ≡ after (word ∷ words)
  walks = ap (λ (w : Walk). fold (walked serve.rules []) w words) first ∙ walk_on words (word ∷ []) (rest word words plain)

  no_fault : walk_fault serve [] (walk_from nothing_held) (word ∷ words) ≡ []
  unfolding walk_fault
  no_fault =
      ap (λ kinds. or_else kinds (walk_fault serve [] (walked serve.rules [] (walk_from nothing_held) word) words))
      (no_turn_fault serve idle 1 nothing_held word (plain 0 word (omega arith)) refl refl refl)
      ∙ ap (λ (w : Walk). walk_fault serve [] w words) first ∙ none_on words (word ∷ []) (rest word words plain)

  settles : settle_fault serve.rules serve.args_override_self (after (word ∷ words)).held ≡ []
  settles = ap (λ kinds. or_else kinds (values_fault streams (word ∷ words)))
      (in_range (length (word ∷ words)) (omega arith) fits) ∙ texts_pass (word ∷ words)

  late : late_fault serve (after (word ∷ words)).held false ≡ []
  unfolding clap_on_literals
  late =
      let held = (after (word ∷ words)).held in
      ap (λ kinds. or_else kinds (or_else (defaults_fault (settled serve.rules held).rows serve.rules)
      (check_fault serve (finished serve.rules held) false))) settles

  below : level_fault serve [] nothing_held (word ∷ words) false [] ≡ []
  below = level_passes serve [] (word ∷ words) false [] (after (word ∷ words)) walks no_fault refl late

abbrev top : Shape
top = (built y4mserve).top

abbrev all_names : Names
all_names = names_of (built y4mserve)

-- the walk of the command itself, which stops at `serve`
abbrev stopped : List Text → Walk
stopped words = record (walk_from nothing_held) { stopped = Some (codes "serve", words) }

stops : (words : List Text) → walk top.rules all_names nothing_held (codes "serve" ∷ words) ≡ stopped words
unfolding clap_on_literals
stops words = sym (walk_stopped top.rules all_names (walk_from nothing_held) (codes "serve") [] words)

stops_well : (words : List Text) → walk_fault top all_names (walk_from nothing_held) (codes "serve" ∷ words) ≡ []
unfolding clap_on_literals
stops_well words = stopped_fault top all_names (walk_from nothing_held) (codes "serve", []) words

abbrev fault_by : List Text → Option (Text × List Text) → Kinds
fault_by words stop =
    level_fault top all_names nothing_held (codes "serve" ∷ words) (is_some (entered (built y4mserve) stop))
    (entered_fault (built y4mserve) stop)

passes : (words : List Text) → late_fault top (stopped words).held true ≡ []
unfolding clap_on_literals
passes words = refl

pub serve_taken : (word : Text) (words : List Text) → AllPlain (word ∷ words) → length (word ∷ words) ≤ usize_max
    → AreTaken (codes "serve" ∷ word ∷ words)
serve_taken word words plain fits =
    ap (λ (w : Walk). fault_by (word ∷ words) w.stopped) (stops (word ∷ words))
    ∙ level_passes top all_names (codes "serve" ∷ word ∷ words) true _ (stopped (word ∷ words)) (stops (word ∷ words))
    (stops_well (word ∷ words))
    (below word words plain fits) (passes (word ∷ words))

pub serve_met : (word : Text) (words : List Text) → AllPlain (word ∷ words) → length (word ∷ words) ≤ usize_max
    → subcommand_of y4mserve (codes "serve" ∷ word ∷ words) ≡ Some (codes "serve", finished serve.rules (after (word ∷ words)).held)
serve_met word words plain fits =
    ap (λ (w : Walk). entered (built y4mserve) w.stopped) (stops (word ∷ words))
    ∙ ap (λ (w : Walk). Some (codes "serve", finished serve.rules w.held)) (walks word words plain fits)
