-- What clap's readers of an argument give, by the rows of what was found.
use Rattle.std.proofs.Common.{◌≡◌, ◌∙◌, ℕ, List, [], ◌∷◌, Option, Some, None, refl, ap, map, option_map}
use Rattle.std.specs.Prelude.{find, option_and_then, slice_get, unwrap_or}
use Rattle.std.specs.Borrow.{Bor}
use Rattle.std.specs.Str.{bytes_eq}
use Rattle.clap.proofs.WalkLemmas.{find-map}
use Rattle.clap.specs.Matches.{first_value, matched_of, one_text, raw_values}
use Rattle.clap.specs.Values.{read_as}
use Rattle.clap.specs.Facts.{Entry}
use Rattle.clap.specs.Walk.{Row, all_of, first_of, one_of, row_of, row_text, rows_of}
use Rattle.clap.specs.declared.parser.matches.Found.{Found}
use Rattle.clap.specs.declared.parser.matches.MatchedArg.{MatchedArg}

-- what is made of an argument's entry is what is made of its row
by_row : {X : Type 0} (found : Found) (name : List ℕ) (of_entry : MatchedArg → Option X) (of_row : Row → Option X)
    → ((entry : Entry) → of_entry entry.1 ≡ of_row (row_of entry))
    → option_and_then of_entry (matched_of found name) ≡ option_and_then of_row (find (λ row. bytes_eq row.id name) (rows_of found))
by_row found name of_entry of_row same =
    step (find (λ entry. bytes_eq entry.0.now name) found.entries.items)
    ∙ ap (option_and_then of_row) (find-map (λ row. bytes_eq row.id name) row_of found.entries.items)
  where
    step : (o : Option Entry) → option_and_then of_entry (option_map (λ entry. entry.1) o) ≡ option_and_then of_row (option_map row_of o)
    step None = refl
    step (Some entry) = same entry

first_text : {X : Type 0} (f : List ℕ → X) (texts : List (Bor (List ℕ)))
    → option_map (λ text. f text.now) (slice_get texts 0) ≡ option_map f (slice_get (map (λ text. text.now) texts) 0)
first_text f [] = refl
first_text f (text ∷ texts) = refl

pub one_by_row : (found : Found) (name : List ℕ) → one_text found name ≡ one_of name (rows_of found)
one_by_row found name = by_row found name _ row_text (λ entry. first_text (read_as entry.1.reading) entry.1.vals.items)

pub first_by_row : (found : Found) (name : List ℕ) → first_value found name ≡ first_of name (rows_of found)
first_by_row found name = by_row found name _ (λ row. slice_get row.values 0) (λ entry. go entry.1.vals.items)
  where
    go : (texts : List (Bor (List ℕ))) → option_map (λ text. text.now) (slice_get texts 0) ≡ slice_get (map (λ text. text.now) texts) 0
    go [] = refl
    go (text ∷ texts) = refl

pub all_by_row : (found : Found) (name : List ℕ) → option_map raw_values (matched_of found name) ≡ all_of name (rows_of found)
all_by_row found name = go (find (λ entry. bytes_eq entry.0.now name) found.entries.items)
    ∙ ap (option_map (λ row. row.values)) (find-map (λ row. bytes_eq row.id name) row_of found.entries.items)
  where
    go : (o : Option Entry) → option_map raw_values (option_map (λ entry. entry.1) o) ≡ option_map (λ row. row.values) (option_map row_of o)
    go None = refl
    go (Some entry) = refl

-- what is made of an option's value or of the default
pub of_unwrapped : {X Y : Type 0} (f : X → Y) (given : Option X) (default : X)
    → f (unwrap_or given default) ≡ unwrap_or (option_map f given) (f default)
of_unwrapped f None default = refl
of_unwrapped f (Some x) default = refl
