-- Files that are told apart, one after the other.
use Rattle.std.proofs.Common.{◌≡◌, ℕ, ◌+◌, ◌<◌, List, [], ◌∷◌, ◌++◌, length, get_or, take, drop, All, AllPairs, Any}
use Rattle.std.proofs.Common.{◌∙◌, add-one, ap, codes, drop-cons, subst, sym, true}
use Rattle.std.proofs.lemmas.List.{get_or_default, take-append-drop, take_more}
use Rattle.std.proofs.lemmas.List.Quantifiers.{all_pairs_push}
use Rattle.serve_report.specs.Apart.{AreErrorsApart, AreUses, Clash, IsApart, IsFirstClash, OfPlace, name_used}
use Rattle.serve_words.specs.StreamWords.{StreamAsked}
use Rattle.serve_report.specs.declared.serve.apart.FileUse.{FileUse}

module _ (uses : List FileUse) (i : ℕ) (d : FileUse) (less : i < length uses) (apart : AllPairs IsApart (take i uses)) where
  -- one more that clashes with none before it
  pub one_more_apart : (Any (λ one. Clash one (get_or uses i d)) (take i uses) → ⊥) → AllPairs IsApart (take (i + 1) uses)
  one_more_apart none =
      let last = get_or uses i d in
      subst (λ front. AllPairs IsApart front) (sym (take_more uses i d less))
      (all_pairs_push IsApart (take i uses) last apart (λ k e below clash. none
      (k, get_or (take i uses) k e, below, get_or_default (take i uses) k _ e below, clash)))

  -- one that does is the first
  pub first_of_all : Any (λ one. Clash one (get_or uses i d)) (take i uses) → IsFirstClash uses (get_or uses i d)
  first_of_all clash = record {
    before = take i uses;
    later = drop (i + 1) uses;
    stands = sym (take-append-drop i uses) ∙ ap (λ left. take i uses ++ left) (rw add-one (drop-cons uses i d less));
    apart = apart;
    clash = clash;
  }

-- what clashes with none is apart from each
pub apart_from_all : (uses : List FileUse) (found : FileUse) → (Any (λ one. Clash one found) uses → ⊥)
    → All (λ one. IsApart one found) uses
apart_from_all uses found none k e below clash = none (k, get_or uses k e, below, get_or_default uses k _ e below, clash)

-- a file that clashes with none behind the first is apart from those of the streams
pub errors_apart : (PlaceGives : OfPlace) (streams : List StreamAsked) (uses : List FileUse) (errors : FileUse)
    → AreUses PlaceGives streams uses → name_used errors ≡ (codes "/dev/stderr", true)
    → PlaceGives (codes "/dev/stderr") errors.place → (Any (λ one. Clash one errors) (drop 1 uses) → ⊥)
    → AreErrorsApart PlaceGives streams
errors_apart PlaceGives streams [] errors are named placed none = let same = are.names in cc
errors_apart PlaceGives streams (report ∷ uses) errors are named placed none = record {
  report = report;
  uses = uses;
  are_uses = are;
  errors = errors;
  are_errors = (named, placed);
  apart = apart_from_all uses errors none;
}
