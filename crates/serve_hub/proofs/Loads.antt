-- How many streams of a desk aren't over.
use Rattle.std.proofs.Common.{ℕ, ◌+◌, ◌≡◌, ◌<◌, ◌↔◌, inl, inr, Bool, true, false, ◌&&◌, if◌then◌else◌, nat_eq, List, length}
use Rattle.std.proofs.Common.{IsSomeAnd, IsTrue, Option, Some, slice_get, sum_by, take, arith, ap, refl, subst, ◌∙◌}
use Rattle.std.proofs.lemmas.Bool.Decides.{nat_tests}
use Rattle.std.proofs.lemmas.List.Sums.{sum_by_more}
use Rattle.std.proofs.lemmas.Option.{slice_get_cases}
use Rattle.serve_core.specs.Streams.{IsOver, KeptStream}
use Rattle.serve_hub.specs.Books.{one_not_over}

same : (a b : ℕ) → a ≡ b → nat_eq a b ≡ true
same a b h = grind (arith, nat_tests)

tested : (a b : ℕ) → nat_eq a b ≡ true → a ≡ b
tested a b h = grind (arith, nat_tests)

abbrev pub one_unless : Bool → ℕ
one_unless b = if b then 0 else 1

counted : (closed all over : Bool) → (over ≡ true → (closed ≡ true) × (all ≡ true))
    → (closed ≡ true → all ≡ true → over ≡ true) → one_unless (closed && all) ≡ one_unless over
counted true true true to from = refl
counted true true false to from = let yes = from refl refl in absurd (cc)
counted true false true to from = let no = (to refl).1 in absurd (cc)
counted true false false to from = refl
counted false all true to from = let no = (to refl).0 in absurd (cc)
counted false all false to from = refl

one_counted : (x : KeptStream) (over : Bool) → (IsTrue over ↔ IsOver x) → one_not_over x ≡ one_unless over
one_counted x over is =
    counted x.state.is_closed (nat_eq x.state.finished x.state.accepted) over
    (λ yes. (let it = is.0 yes in (it.closed, same x.state.finished x.state.accepted it.finished)))
    (λ closed all. is.1 (record { closed = closed; finished = tested x.state.finished x.state.accepted all }))

-- one stream more
pub counts_more : (xs : List KeptStream) (n : ℕ) (over : Bool) → n < length xs
    → (IsTrue over ↔ IsSomeAnd (slice_get xs n) IsOver)
    → sum_by one_not_over (take (n + 1) xs) ≡ sum_by one_not_over (take n xs) + one_unless over
counts_more xs n over less is = elim (slice_get_cases xs n).1 [
  | inl at ↦
      let here = subst (λ (o : Option KeptStream). IsTrue over ↔ IsSomeAnd o IsOver) at.2 is in
      sum_by_more one_not_over xs n at.0 less
      ∙ ap (λ (k : ℕ). sum_by one_not_over (take n xs) + k) (ap one_not_over at.3 ∙ one_counted at.0 over here)
  | inr past ↦ absurd (omega (arith, less, past.0))
]
