-- Words in which clap finds no fault name a subcommand of the command's own.
use Rattle.std.proofs.Common.{◌≡◌, ◌∙◌, ◌⊎◌, ℕ, Bool, cond, codes, true, false, refl, sym, subst, ap, inl}
use Rattle.std.proofs.Common.{inr, List, [], ◌∷◌, Option, Some, None, is_some}
use Rattle.std.specs.Prelude.{⊤, ◌&&◌, ◌||◌, find, fold, not, option_map, slice_index_or, unwrap_or}
use Rattle.std.specs.Str.{bytes_eq}
use Rattle.clap.specs.Faults.{built_fault, check_fault, defaults_fault, entered_fault, level_fault}
use Rattle.clap.specs.Faults.{other_fault, settle_fault, step_fault, turn_fault, walk_fault, word_fault}
use Rattle.clap.specs.Kinds.{Kinds, check_kinds, or_else}
use Rattle.clap.specs.Lexer.{long_of, short_of}
use Rattle.clap.specs.Simple.{App, Shape, built, entered, label_of, names_of, rows_at, subcommand_of}
use Rattle.clap.specs.Walk.{Held, Names, Outcome, Rule, Step, Text, Waiting, Walk, after_flag, after_step}
use Rattle.clap.specs.Walk.{answers_to, arg_by_index, bundle, done, finished, idle, long_met, arg_by_long}
use Rattle.clap.specs.Walk.{long_or_other, next, nothing_held, option, plain, plain_word, positional, refused}
use Rattle.clap.specs.Walk.{short_or_plain, subcommand, subcommand_met, subcommand_or_other}
use Rattle.clap.specs.Walk.{settled, to_positional, trailing, value, waits, walk, walk_from, walked, walked_from, word_met}
use Rattle.clap.specs.declared.error.kind.ErrorKind.TheVariants.{DisplayHelp, InvalidSubcommand}
use Rattle.std.proofs.lemmas.Slice.Eq.{bytes_eq-Decides}
use Rattle.clap.proofs.WalkLemmas.{walk_stopped}
use Rattle.serve_words.specs.CommandLine.{y4mserve}
use Rattle.serve_words.specs.Options.{AreTaken, MeetsOne}

-- what fails in neither of two steps fails in none of them
neither : (one other : Kinds) → or_else one other ≡ [] → (one ≡ []) × (other ≡ [])
neither [] other none = (refl, none)
neither (kind ∷ kinds) other none = cc

-- ---- a word that isn't a subcommand

abbrev GoesOn : Step → Type 0
GoesOn (subcommand name) = ⊥
GoesOn _ = ⊤

module _ (rules : List Rule) (word : Text) where
  placed : (argument : Option Rule) (w : Walk) (held : Held) → w.stopped ≡ None → (to_positional rules argument word w held).stopped ≡ None
  placed None w held none = none
  placed (Some argument) w held none = refl

  stays : (w : Walk) (held : Held) (step : Step) → w.stopped ≡ None → GoesOn step → (after_step rules word w held step).stopped ≡ None
  stays w held (next waiting) none goes = none
  stays w held (trailing position) none goes = none
  stays w held (subcommand name) none goes = absurd goes
  stays w held value none goes = placed (arg_by_index rules w.position) w held none

  by_plain : (waiting : Waiting) (held : Held) → GoesOn (plain_word rules waiting word held).1
  by_plain idle held = tt
  by_plain (option id) held = tt
  by_plain positional held = tt

  by_flag : (waiting : Waiting) (held : Held) (outcome : Outcome) → GoesOn (after_flag rules waiting word held outcome).1
  by_flag waiting held done = tt
  by_flag waiting held (waits id) = tt
  by_flag waiting held plain = by_plain waiting held
  by_flag waiting held refused = by_plain waiting held

  by_short : (waiting : Waiting) (flags : Option Text) (held : Held) → GoesOn (short_or_plain rules waiting word flags held).1
  by_short waiting (Some flags) held = by_flag waiting (bundle rules flags held).0 (bundle rules flags held).1
  by_short waiting None held = by_plain waiting held

  by_long : (waiting : Waiting) (long : Option (Text × Option Text)) (held : Held) → GoesOn (long_or_other rules waiting word long held).1
  by_long waiting (Some long) held =
      let met = long_met rules (arg_by_long rules long.0) long.1 held in
      by_flag waiting met.0 met.1
  by_long waiting None held = by_short waiting (short_of word) held

  by_other : (waiting : Waiting) (position : ℕ) (held : Held) → GoesOn (subcommand_or_other rules None waiting position word held).1
  by_other waiting position held = go (bytes_eq word (45 ∷ 45 ∷ []))
    where
      go : (is_end : Bool) → GoesOn (cond is_end (held, trailing position) (long_or_other rules waiting word (long_of word) held)).1
      go true = tt
      go false = by_long waiting (long_of word) held

-- ---- the walk over the words

module _ (shape : Shape) (names : Names) (helps : shape.disable_help_subcommand ≡ false) where
  -- after a word: on it goes, or the subcommand of this name was met, which isn't `help`
  abbrev Turned : Walk → Type 0
  Turned w = (w.stopped ≡ None) ⊎ ((name : Text) × (w.stopped ≡ Some (name, [])) × (bytes_eq name (codes "help") ≡ false))

  no_help : (name word : Text) (held : Held) → other_fault shape (Some name) word held ≡ [] → bytes_eq name (codes "help") ≡ false
  no_help name word held none = go (bytes_eq name (codes "help")) shape.disable_help_subcommand helps none
    where
      go : (is_help is_disabled : Bool) → is_disabled ≡ false
          → cond (is_help && not is_disabled) (DisplayHelp ∷ InvalidSubcommand ∷ []) [] ≡ [] → is_help ≡ false
      go true true is none = cc
      go true false is none = cc
      go false is_disabled is none = refl

  one_turn : (word : Text) (w : Walk) (is_trailing : Bool) (met : Option Text) → w.stopped ≡ None
      → cond is_trailing [] (other_fault shape met word w.held) ≡ []
      → let step = cond is_trailing (w.held, value) (subcommand_or_other shape.rules met w.waiting w.position word w.held) in
      Turned (after_step shape.rules word w step.0 step.1)
  one_turn word w true met on none = inl (stays shape.rules word w w.held value on tt)
  one_turn word w false (Some name) on none = inr (name, refl, no_help name word w.held none)
  one_turn word w false None on none =
      let step = subcommand_or_other shape.rules None w.waiting w.position word w.held in
      inl (stays shape.rules word w step.0 step.1 on (by_other shape.rules word w.waiting w.position w.held))

  by_turn : (word : Text) (w : Walk) → w.stopped ≡ None → turn_fault shape names w word ≡ [] → Turned (walked shape.rules names w word)
  unfolding walked
  by_turn word w on none =
      let met = word_met shape.rules names w.is_trailing w.waiting w.position word w.held in
      let kinds : or_else (word_fault shape names w.is_trailing w.waiting word w.held)
      (step_fault shape w.position met.0 met.1) ≡ [] = rw on at none in
      let turned = one_turn word w w.is_trailing (subcommand_met names w.waiting word) on (neither _ _ kinds).0 in
      subst (λ stop. Turned (walked_from shape.rules names stop w word)) (sym on) turned

  stops_right : (words : List Text) (w : Walk) (met : Text × List Text) → w.stopped ≡ None → walk_fault shape names w words ≡ []
      → (fold (walked shape.rules names) w words).stopped ≡ Some met → bytes_eq met.0 (codes "help") ≡ false
  unfolding walk_fault
  stops_right [] w met on none stopped = cc
  stops_right (word ∷ words) w met on none stopped =
      let next = walked shape.rules names w word in
      let both = neither _ _ none in
      elim (by_turn word w on both.0) [
        | inl on ↦ stops_right words next met on both.1 stopped
        | inr at ↦
            let end = ap (λ stop. (fold (walked shape.rules names) (record next { stopped = stop }) words).stopped) at.1 in
            let was = ap (λ w. w.stopped) (walk_stopped shape.rules names next at.0 [] words) in
            let same : Some met ≡ Some (at.0, words) = sym stopped ∙ end ∙ sym was in
            subst (λ name. bytes_eq name (codes "help") ≡ false)
            (ap (λ (met : Option (Text × List Text)). (unwrap_or met (at.0, words)).0) (sym same)) at.2
      ]

-- ---- after the walk

has_met : (has wants_help wants_subcommand wants_argument : Bool) → wants_subcommand ≡ true
    → check_kinds (not has && wants_help) (not has && wants_subcommand) wants_argument ≡ [] → has ≡ true
has_met true wants_help wants_subcommand wants_argument wants none = refl
has_met false true wants_subcommand wants_argument wants none = cc
has_met false false true wants_argument wants none = cc
has_met false false false wants_argument wants none = cc

-- where a subcommand is required, a level at which nothing fails has met one
level_passes : (shape : Shape) (names : Names) (words : List Text) (has : Bool) (below : Kinds) → shape.subcommand_required ≡ true
    → level_fault shape names nothing_held words has below ≡ []
    → (walk_fault shape names (walk_from nothing_held) words ≡ []) × (has ≡ true)
level_passes shape names words has below wants none =
    let end = (walk shape.rules names nothing_held words).held in
    let walks = neither (walk_fault shape names (walk_from nothing_held) words) _ none in
    let settles = neither (settle_fault shape.rules shape.args_override_self end) _ (neither below _ walks.1).1 in
    let checks : check_fault shape (finished shape.rules end) has ≡ [] =
    (neither (defaults_fault (settled shape.rules end).rows shape.rules) _ settles.1).1 in
    (walks.0, search (has_met, wants, checks))

module _ (app : App) (words : List Text) (wants : app.top.subcommand_required ≡ true)
    (helps : app.top.disable_help_subcommand ≡ false) where
  -- where the walk over the words stopped
  abbrev stop : Option (Text × List Text)
  stop = (walk app.top.rules (names_of app) nothing_held words).stopped

  -- it stopped at a subcommand that is known, which isn't `help`
  abbrev Enters : Text × List Text → Type 0
  Enters met = (stop ≡ Some met) × (bytes_eq met.0 (codes "help") ≡ false) × (is_some (entered app (Some met)) ≡ true)

  enters : (stopped : Option (Text × List Text)) → stop ≡ stopped → walk_fault app.top (names_of app) (walk_from nothing_held) words ≡ []
      → is_some (entered app stopped) ≡ true → (met : Text × List Text) × Enters met
  enters None is walks has = cc
  enters (Some met) is walks has =
      (met, (is, stops_right app.top (names_of app) helps words (walk_from nothing_held) met refl walks is, has))

  enters_right : built_fault app nothing_held words ≡ [] → (met : Text × List Text) × Enters met
  enters_right none =
      let passes = level_passes app.top (names_of app) words (is_some (entered app stop)) (entered_fault app stop) wants none in
      enters stop refl passes.0 passes.1

-- of four that are sought, the one that is found is one of the first three where the last doesn't fit
one_of_three : {X Y : Type 0} (fits : X → Bool) (make : X → Y) (a b c d : X) → fits d ≡ false
    → let found = option_map make (find fits (a ∷ b ∷ c ∷ d ∷ [])) in
    is_some found ≡ true → (found ≡ Some (make a)) ⊎ (found ≡ Some (make b)) ⊎ (found ≡ Some (make c))
one_of_three fits make a b c d unfit is = go (fits a) (fits b) (fits c) (fits d) unfit is
  where
    go : (first second third fourth : Bool) → fourth ≡ false
        → let found = option_map make (cond first (Some a) (cond second (Some b) (cond third (Some c) (cond fourth (Some d) None)))) in
        is_some found ≡ true → (found ≡ Some (make a)) ⊎ (found ≡ Some (make b)) ⊎ (found ≡ Some (make c))
    go true second third fourth unfit is = inl refl
    go false true third fourth unfit is = inr (inl refl)
    go false false true fourth unfit is = inr (inr refl)
    go false false false true unfit is = cc
    go false false false false unfit is = cc

other_name : (name : Text) → bytes_eq name (codes "help") ≡ false → (bytes_eq (codes "help") name || false) ≡ false
other_name name other = go (bytes_eq (codes "help") name) refl
  where
    go : (same : Bool) → bytes_eq (codes "help") name ≡ same → (same || false) ≡ false
    go true is =
        let help = (bytes_eq-Decides name (codes "help")).1 (sym ((bytes_eq-Decides (codes "help") name).0 is)) in
        cc
    go false is = refl

pub meets_one : (words : List Text) → AreTaken words → MeetsOne (subcommand_of y4mserve words)
meets_one words taken =
    let app = built y4mserve in
    let met = enters_right app words refl refl taken in
    let at = λ (place : ℕ). slice_index_or app.subs place app.top in
    let one = one_of_three (λ (sub : Shape). answers_to met.0.0 (label_of sub)) (λ sub. rows_at sub met.0.1) (at 0)
    (at 1) (at 2) (at 3) (other_name met.0.0 met.1.1) met.1.2 in
    subst (λ stop. MeetsOne (entered app stop)) (sym met.1.0) (elim one [
      | inl is ↦ (_, inl is)
      | inr (inl is) ↦ (_, inr (inl is))
      | inr (inr is) ↦ (_, inr (inr is))
    ])
