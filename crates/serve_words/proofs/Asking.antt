-- Streams that words ask for, one after the other.
use Rattle.std.proofs.Common.{◌≡◌, ℕ, ◌+◌, ◌<◌, Bool, ◌||◌, List, [], ◌∷◌, ◌++◌, length, get_or, drop}
use Rattle.std.proofs.Common.{bytes_eq, Result, Ok, Err, Bor, sym, ap, ◌∙◌, add-one, drop-cons}
use Rattle.std.proofs.lemmas.List.{map_push}
use Rattle.std.proofs.lemmas.List.Elements.{All-append, All-from_recursion}
use Rattle.serve_words.specs.StreamWords.{StreamAsked}
use Rattle.serve_words.specs.ServeChecks.{AreSaid, Fault, IsSaid, all_told, asked_told, is_named, then_given}
use Rattle.serve_words.specs.ServeChecks.{word_given, words_given}
use Rattle.serve_words.specs.StreamWords.{words_asked}
use Rattle.serve_words.specs.declared.checks.Asked.{Asked}

-- what is left of a list begins with the element there
left_at : {X : Type 0} (xs : List X) (i : ℕ) (d : X) → i < length xs → drop i xs ≡ get_or xs i d ∷ drop (i + 1) xs
left_at xs i d less = rw add-one (drop-cons xs i d less)

left_from : {X : Type 0} (xs : List X) (i : ℕ) (x : X) → i < length xs → x ≡ get_or xs i x
    → drop i xs ≡ x ∷ drop (i + 1) xs
left_from xs i x less is = left_at xs i x less ∙ ap (λ y. y ∷ drop (i + 1) xs) (sym is)

-- a name among those of the streams from here on is the first's or a later one's
pub named_from : (name : List ℕ) (streams : List Asked) (i : ℕ) (asked : Asked) (same : Bool)
    → i < length streams → asked ≡ get_or streams i asked → bytes_eq name asked.word.name.now ≡ same
    → is_named name (all_told (drop i streams)) ≡ (same || is_named name (all_told (drop (i + 1) streams)))
named_from name streams i asked same less is e =
    ap (λ rest. is_named name (all_told rest)) (left_from streams i asked less is)
    ∙ ap (λ found. found || is_named name (all_told (drop (i + 1) streams))) e

module _ (is_input_taken : Bool) (before : List StreamAsked) (words : List (Bor (List ℕ))) (i : ℕ) (d : Bor (List ℕ))
    (less : i < length words) where
  later : StreamAsked → Result (List StreamAsked) Fault
  later stream = words_given is_input_taken (before ++ stream ∷ []) (words_asked (drop (i + 1) words))

  first_word : words_given is_input_taken before (words_asked (drop i words))
      ≡ then_given later (word_given is_input_taken before (get_or words i d).now)
  unfolding later
  first_word = ap (λ rest. words_given is_input_taken before (words_asked rest)) (left_at words i d less)

  -- one word further
  pub one_word : (stream : StreamAsked) → word_given is_input_taken before (get_or words i d).now ≡ Ok stream
      → words_given is_input_taken before (words_asked (drop i words))
      ≡ words_given is_input_taken (before ++ stream ∷ []) (words_asked (drop (i + 1) words))
  unfolding later
  one_word stream given = first_word ∙ ap (then_given later) given

  -- a word's fault ends it
  pub faulty_word : (fault : Fault) → word_given is_input_taken before (get_or words i d).now ≡ Err fault
      → words_given is_input_taken before (words_asked (drop i words)) ≡ Err fault
  faulty_word fault given = first_word ∙ ap (then_given later) given

-- a stream more
pub told_more : (streams : List Asked) (asked : Asked)
    → all_told (streams ++ asked ∷ []) ≡ all_told streams ++ asked_told asked ∷ []
told_more streams asked = map_push asked_told streams asked

pub said_more : (streams : List Asked) (asked : Asked) → AreSaid streams → IsSaid asked → AreSaid (streams ++ asked ∷ [])
said_more streams asked said one =
    All-append IsSaid streams (asked ∷ []) said (All-from_recursion IsSaid (asked ∷ []) (one, tt))
