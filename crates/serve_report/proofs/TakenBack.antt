-- A ticket that is taken back.
use Rattle.std.proofs.Common.{◌≡◌, ◌≢◌, ◌∙◌, ℕ, suc, ◌<◌, List, [], ◌∷◌, ◌++◌, length, length-append, get_or, drop, inl, inr, ap, arith, refl, subst, sym}
use Rattle.std.specs.Prelude.{All, AllPairs, remove}
use Rattle.std.proofs.Math.Seq.{get_or-append_seam, take-append_seam}
use Rattle.std.proofs.lemmas.List.Elements.{All-append, All-drop, All-take}
use Rattle.std.proofs.lemmas.Bool.{cases_order}

-- what stands behind those before it is there
within : (before after : List ℕ) (ticket : ℕ) → length before < length (before ++ ticket ∷ after)
within before after ticket = omega (arith, length-append before (ticket ∷ after))

-- in a rising list a number stands once
pub stands_once : (before after : List ℕ) (ticket place : ℕ) → AllPairs (λ one later. one < later) (before ++ ticket ∷ after)
    → place < length (before ++ ticket ∷ after) → get_or (before ++ ticket ∷ after) place 0 ≡ ticket → place ≡ length before
stands_once before after ticket place rising less stands =
    let at = get_or-append_seam before ticket after 0 in
    elim (cases_order place (length before)) [
      | inl same ↦ same
      | inr (inl lower) ↦ absurd (omega (arith, stands, at, rising place (length before) 0 lower (within before after ticket)))
      | inr (inr higher) ↦ absurd (omega (arith, stands, at, rising (length before) place 0 higher less))
    ]

-- what stands behind it is what is left behind it
behind : (before after : List ℕ) (ticket : ℕ) → drop (suc (length before)) (before ++ ticket ∷ after) ≡ after
behind [] after ticket = refl
behind (one ∷ before) after ticket = behind before after ticket

-- so it is the one that is taken out
pub taken : (given before after : List ℕ) (ticket place : ℕ) → AllPairs (λ one later. one < later) given
    → place < length given → get_or given place 0 ≡ ticket → given ≡ before ++ ticket ∷ after → remove given place ≡ before ++ after
taken given before after ticket place rising less stands is =
    let all = before ++ ticket ∷ after in
    let at = stands_once before after ticket place
    (subst (λ these. AllPairs (λ one later. one < later) these) is rising)
    (subst (λ these. place < length these) is less) (sym (ap (λ these. get_or these place 0) is) ∙ stands) in
    ap (λ these. remove these place) is ∙ ap (λ there. remove all there) at
    ∙ ap (λ front. front ++ drop (suc (length before)) all) (take-append_seam before (ticket ∷ after))
    ∙ ap (λ back. before ++ back) (behind before after ticket)

-- one that doesn't stand there isn't taken out
pub stands_not : (given before after : List ℕ) (ticket : ℕ) → All (λ one. one ≢ ticket) given → ¬ (given ≡ before ++ ticket ∷ after)
stands_not given before after ticket none is =
    let here = subst (λ all. All (λ one. one ≢ ticket) all) is none in
    here (length before) 0 (within before after ticket) (get_or-append_seam before ticket after 0)

-- those that are left are below what all are
pub left_below : (given : List ℕ) (place next : ℕ) → All (λ one. one < next) given → All (λ one. one < next) (remove given place)
left_below given place next below =
    All-append (λ one. one < next) _ _ (All-take (λ one. one < next) place given below) (All-drop (λ one. one < next) (suc place) given below)
