use Rattle.std.proofs.Common.{ℕ, ◌≡◌, ◌<◌, ◌↔◌, Bool, true, false, IsTrue, List, [], ◌∷◌, MatchBool, length, refl, subst, sym, arith, rules, tests}
use Rattle.std.proofs.Common.{slice_index_or}
use Rattle.std.specs.List.{AllWithin, Any, HoldsAt}
use Rattle.std.proofs.lemmas.Iterator.{cases_from_any, YieldsList-from_slice}
use Rattle.std.proofs.lemmas.List.{get_or_default}
use Rattle.serve_hub.specs.Seats.{StreamSeatValue}
use Rattle.serve_hub.proofs.agree.has_stream.Goals as goal

here : {X : Type 0} (P : X → Type 0) (xs : List X) (k : ℕ) → k < length xs → HoldsAt P xs k → Any P xs
here P [] k l at = absurd (omega (arith, l))
here P (x ∷ xs) k l at = (k, slice_index_or (x ∷ xs) k x, l, get_or_default (x ∷ xs) k _ x l, at x)

any_is : {X : Type 0} (P : X → Type 0) (r : Bool) (xs : List X)
    → MatchBool r ((k : ℕ) × (k < length xs) × HoldsAt P xs k) (AllWithin (λ x. ¬ P x) xs 0 (length xs))
    → (IsTrue r ↔ Any P xs)
any_is P true xs at = (λ _. here P xs at.0 at.1 at.2, λ _. refl)
any_is P false xs none = (
  λ e. absurd (cc),
  λ any. absurd (none any.0 any.1 (omega arith) any.2 (subst P (sym any.3) any.4)),
)

pub returns : goal.returns
returns g c =
    let seats = c.args.seats.now in
    let IsIt = λ (s : StreamSeatValue). s.number ≡ c.args.number in
    any_is IsIt c.any.result seats
    (cases_from_any _ _ _ IsIt (λ s. ¬ IsIt s) c.any.ensures.ran (YieldsList-from_slice seats cc) (λ x q k. search (rules, tests))
    (λ x q k. search (rules, tests)))
