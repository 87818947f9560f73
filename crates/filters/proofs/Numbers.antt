-- Numbers between commas.
use Rattle.std.proofs.Common.{◌≡◌, ℕ, ◌<◌, List, [], ◌∷◌, length, None, Some, Option, refl, sym, arith, eqb}
use Rattle.std.proofs.Common.{Bor}
use Rattle.std.specs.Option.{option_map, option_and_then, option_copied}
use Rattle.std.specs.List.{slice_split}
use Rattle.std.proofs.lemmas.List.Splits.{length-slice_split}
use Rattle.y4m_header.specs.Text.{number_of}
use Rattle.filters.specs.declared.limits.TheConstants.{MOST_NUMBER_DIGITS}
use Rattle.filters.specs.OpsText.{numbers, all_numbers}
use Rattle.filters.specs.Scan.{only_number, numbers_left}

one_and_next : (n : ℕ) (next : Option ℕ) (more : Option (List ℕ))
    → option_and_then only_number
    (option_map (λ ns. n ∷ ns) (option_and_then (λ v. option_map (λ ns. v ∷ ns) more) next)) ≡ None
one_and_next n None more = refl
one_and_next n (Some v) None = refl
one_and_next n (Some v) (Some ns) = refl

one_and_all : (n : ℕ) (texts : List (List ℕ)) → 0 < length texts
    → option_and_then only_number (option_map (λ ns. n ∷ ns) (all_numbers texts)) ≡ None
one_and_all n [] h = absurd (omega arith)
one_and_all n (text ∷ texts) h = one_and_next n (number_of MOST_NUMBER_DIGITS text) (all_numbers texts)

-- a text that stands behind a number has a number more, or none that is read
one_and_more : (n : ℕ) (text : List ℕ)
    → option_and_then only_number (option_map (λ ns. n ∷ ns) (numbers text)) ≡ None
one_and_more n text =
    one_and_all n (slice_split (λ byte. eqb byte 44) text)
    (omega (arith, length-slice_split (λ byte. eqb byte 44) text))

pub not_only_one : (n : ℕ) (all : Option (List ℕ)) (rest : Option (Bor (List ℕ))) (text : Bor (List ℕ))
    → rest ≡ Some text → all ≡ option_map (λ ns. n ∷ ns) (numbers_left (option_copied rest))
    → None ≡ option_and_then only_number all
not_only_one n all rest text is e = rw (e, is) (sym (one_and_more n text.now))
