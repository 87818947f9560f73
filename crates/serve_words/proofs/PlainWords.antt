-- Words that don't begin with a hyphen, which go to the positionals of a command.
use Rattle.std.proofs.Common.{◌≡◌, ◌∙◌, ap, refl, ℕ, Bool, List, [], ◌∷◌, Some, None, cond, false, true}
use Rattle.std.specs.Prelude.{◌&&◌, ◌==◌, option_and_then}
use Rattle.std.specs.Option.{option_map_or}
use Rattle.std.specs.Str.{bytes_eq}
use Rattle.clap.specs.Faults.{bundle_fault, check_fault, defaults_fault, flag_word_fault, level_fault}
use Rattle.clap.specs.Faults.{other_fault, settle_fault, step_fault, turn_fault, walk_fault, word_fault}
use Rattle.clap.specs.Kinds.{Kinds, or_else}
use Rattle.clap.specs.Lexer.{long_of, long_of_rest, short_of, short_of_rest, strip_byte}
use Rattle.clap.specs.Simple.{Shape}
use Rattle.clap.specs.Walk.{Held, Names, Step, Text, Waiting, Walk, after_step, finished, long_or_other}
use Rattle.clap.specs.Walk.{nothing_held, plain_word, settled, short_or_plain, subcommand_met}
use Rattle.clap.specs.Walk.{subcommand_or_other, trailing, value, walk, walk_from, walked, word_met}
use Rattle.serve_words.specs.KnownWords.{IsNoOption}

no_end : (word : Text) → IsNoOption word → bytes_eq word (45 ∷ 45 ∷ []) ≡ false
no_end [] plain = refl
no_end (x ∷ xs) plain = ap (λ same. same && bytes_eq xs (45 ∷ [])) (go (x == 45) plain)
  where
    go : (same : Bool) → cond same (Some xs) None ≡ None → same ≡ false
    go true is = cc
    go false is = refl

no_long : (word : Text) → IsNoOption word → long_of word ≡ None
no_long word plain = ap (λ rest. option_and_then long_of_rest (option_and_then (strip_byte 45) rest)) plain

no_short : (word : Text) → IsNoOption word → short_of word ≡ None
no_short word plain = ap (λ rest. option_and_then short_of_rest rest) plain

-- the walk between two words
abbrev pub at : Waiting → ℕ → Held → Walk
at waiting position held = record { held = held; waiting = waiting; position = position; is_trailing = false; stopped = None }

module _ (shape : Shape) (waiting : Waiting) (position : ℕ) (held : Held) (word : Text) (plain : IsNoOption word)
    (no_subcommand : subcommand_met [] waiting word ≡ None) (no_option : plain_word shape.rules waiting word held ≡ (held, value)) where
  -- it is a value of a positional
  is_value : word_met shape.rules [] false waiting position word held ≡ (held, value)
  is_value =
      ap (λ met. subcommand_or_other shape.rules met waiting position word held) no_subcommand
      ∙ ap (λ is_end. cond is_end (held, trailing position)
      (long_or_other shape.rules waiting word (long_of word) held)) (no_end word plain)
      ∙ ap (λ long. long_or_other shape.rules waiting word long held) (no_long word plain)
      ∙ ap (λ short. short_or_plain shape.rules waiting word short held) (no_short word plain) ∙ no_option

  no_fault : word_fault shape [] false waiting word held ≡ []
  no_fault =
      ap (λ met. other_fault shape met word held) no_subcommand
      ∙ ap (λ is_end. cond is_end [] (flag_word_fault shape.rules shape.args_override_self (long_of word) word held)) (no_end word plain)
      ∙ ap (λ long. flag_word_fault shape.rules shape.args_override_self long word held) (no_long word plain)
      ∙ ap (λ short. option_map_or (λ flags. bundle_fault shape.rules shape.args_override_self flags held) short []) (no_short word plain)

  pub goes_on : walked shape.rules [] (at waiting position held) word ≡ after_step shape.rules word (at waiting position held) held value
  unfolding walked
  goes_on = ap (λ (step : Held × Step). after_step shape.rules word (at waiting position held) step.0 step.1) is_value

  pub no_turn_fault : step_fault shape position held value ≡ [] → turn_fault shape [] (at waiting position held) word ≡ []
  no_turn_fault none =
      let step = word_met shape.rules [] false waiting position word held in
      ap (λ kinds. or_else kinds (step_fault shape position step.0 step.1)) no_fault
      ∙ ap (λ (step : Held × Step). step_fault shape position step.0 step.1) is_value ∙ none

-- what a level of the parse still finds wrong after the walk over its words
abbrev pub late_fault : Shape → Held → (has_subcommand : Bool) → Kinds
late_fault shape held has = or_else (settle_fault shape.rules shape.args_override_self held)
    (or_else (defaults_fault (settled shape.rules held).rows shape.rules) (check_fault shape (finished shape.rules held) has))

pub level_passes : (shape : Shape) (names : Names) (words : List Text) (has : Bool) (below : Kinds) (end : Walk)
    → walk shape.rules names nothing_held words ≡ end → walk_fault shape names (walk_from nothing_held) words ≡ [] → below ≡ []
    → late_fault shape end.held has ≡ [] → level_fault shape names nothing_held words has below ≡ []
level_passes shape names words has below end is walks passes late =
    ap (λ kinds. or_else kinds (or_else below (late_fault shape (walk shape.rules names nothing_held words).held has))) walks
    ∙ ap (λ kinds. or_else kinds (late_fault shape (walk shape.rules names nothing_held words).held has)) passes
    ∙ ap (λ (w : Walk). late_fault shape w.held has) is ∙ late
