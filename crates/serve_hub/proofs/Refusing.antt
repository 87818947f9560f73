-- Calls that are refused.
use Rattle.std.proofs.Common.{ℕ, ◌≡◌, ◌<◌, ◌⊎◌, inl, inr, Option, None, Some, MatchOption, slice_get, subst}
use Rattle.lease.specs.Lease.{LeaseValue}
use Rattle.serve_core.specs.declared.held.Held.{Held}
use Rattle.serve_core.specs.declared.refusal.Refusal as core
use Rattle.serve_core.specs.declared.refusal.Refusal.TheVariants as cores
use Rattle.serve_hub.specs.declared.refusal.Refusal.{Refusal}
use Rattle.serve_hub.specs.declared.refusal.Refusal.TheVariants.{Core, HistoryFull, StrayLease, Torn}
use Rattle.serve_hub.specs.Answers.{IsJobAnswer, RefusesSettle, WithRoom, or_full}
use Rattle.serve_hub.specs.Books.{BookValue, room}
use Rattle.serve_hub.specs.Calls.{IsOfBook, IsSettleRefusal}
use Rattle.serve_hub.specs.Seats.{WorkSeatValue}

-- what holds of the value that is there
pub matched : {X : Type 0} (A : Type 0) (B : X → Type 0) (o : Option X) (x : X) → o ≡ Some x
    → MatchOption o A B → B x
matched A B o x e m = subst (λ p. MatchOption p A B) e m

-- the answer where too few entries are left
pub is_full : (need : ℕ) (b : BookValue) (IsAnswer : Option core.Refusal → Type 0) (o : Option core.Refusal)
    → IsAnswer o → room b < need → WithRoom need b IsAnswer (Some (or_full o))
is_full need b IsAnswer None answer few = (answer, few)
is_full need b IsAnswer (Some e) answer few = answer

-- a book refuses as its desk does, or for its journal
pub of_book : (b : BookValue) (s at : ℕ) (e : Refusal) → IsJobAnswer b s at (Some e) → IsOfBook e
of_book b s moment (Core e) answer = tt
of_book b s moment HistoryFull answer = tt
of_book b s moment StrayLease answer = answer
of_book b s moment (Torn c) answer = answer

-- a worker that has nothing to settle isn't there, or holds no lease
nothing_held : (o : Option (Option Held)) (e : core.Refusal)
    → MatchOption o (e ≡ cores.NoWorker) (λ held. (held ≡ None) × (e ≡ cores.NoLease))
    → (e ≡ cores.NoWorker) ⊎ (e ≡ cores.NoLease)
nothing_held None e told = inl told
nothing_held (Some held) e told = inr told.1

-- and a worker's seat is told it as the book refuses it
pub settle_told : (b : BookValue) (seat : WorkSeatValue) (w : ℕ) (lease : LeaseValue) (e : Refusal)
    → RefusesSettle b w lease e → IsSettleRefusal seat e
settle_told b seat w lease (Core e) told = nothing_held (slice_get b.desk.workers w) e told
settle_told b seat w lease StrayLease told = tt
settle_told b seat w lease HistoryFull told = absurd told
settle_told b seat w lease (Torn c) told = absurd told
