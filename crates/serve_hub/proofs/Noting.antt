-- A seat that notes a refusal.
use Rattle.std.proofs.Common.{ℕ, ◌≡◌, refl, ap, ◌∙◌, subst, Option, None, Some, IfNone, MatchOption}
use Rattle.filters.specs.ChainImage.{FrameValue}
use Rattle.serve_hub.specs.declared.refusal.Refusal.{Refusal}
use Rattle.serve_hub.specs.declared.refusal.Refusal.TheVariants.{Core, HistoryFull, StrayLease, Torn}
use Rattle.serve_hub.specs.Calls.{AcceptsOther, GetsOther, Notes, NotesFrom, noted}
use Rattle.serve_hub.specs.Seats.{StreamSeatValue}

-- a refusal leaves the calls and the moments
pub noted_calls : (e : Refusal) (seat : StreamSeatValue) → (noted e seat).calls ≡ seat.calls
noted_calls (Core e) seat = refl
noted_calls HistoryFull seat = refl
noted_calls StrayLease seat = refl
noted_calls (Torn c) seat = refl

pub noted_moments : (e : Refusal) (seat : StreamSeatValue) → (noted e seat).moments ≡ seat.moments
noted_moments (Core e) seat = refl
noted_moments HistoryFull seat = refl
noted_moments StrayLease seat = refl
noted_moments (Torn c) seat = refl

-- what is refused, and then noted
pub refusal_noted : {X : Type 0} (o : Option X) (job : X) (frame : FrameValue) (e : Refusal) (Told : Type 0)
    (old mid new : StreamSeatValue) → MatchOption o (GetsOther frame e old mid) (λ back. (back ≡ job) × (mid ≡ old) × Told)
    → new ≡ noted e mid → MatchOption o (AcceptsOther frame e old new) (λ back. (back ≡ job) × (new ≡ noted e old) × Told)
refusal_noted None job frame e Told old mid new m is = (mid, m, is)
refusal_noted (Some back) job frame e Told old mid new m is = (m.0, is ∙ ap (noted e) m.1, m.2)

pub moment_noted : {X : Type 0} (o : Option X) (clock at : ℕ) (e : Refusal) (old mid new : StreamSeatValue)
    → IfNone o (NotesFrom clock at old mid) → new ≡ noted e mid → IfNone o (Notes at old new)
moment_noted None clock at e old mid new m is = (
  clock,
  record {
    number = m.number;
    calls = ap (λ (s : StreamSeatValue). s.calls) is ∙ noted_calls e mid ∙ m.calls;
    moments = ap (λ (s : StreamSeatValue). s.moments) is ∙ noted_moments e mid ∙ m.moments;
  },
)
moment_noted (Some back) clock at e old mid new m is = tt

-- what holds where no value is there
pub unmatched : {X : Type 0} (A : Type 0) (B : X → Type 0) (o : Option X) → o ≡ None → MatchOption o A B → A
unmatched A B o none m = subst (λ p. MatchOption p A B) none m
