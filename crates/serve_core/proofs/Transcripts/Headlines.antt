-- The headline, from the laws.
use Rattle.std.proofs.Common.{ℕ, suc, ◌≡◌, Bool, List, [], ◌∷◌, map, Option, Some, refl, ap, subst}
use Rattle.std.proofs.Common.{slice_get}
use Rattle.edf_pool.specs.Earliest.{IsEarliest}
use Rattle.serve_core.specs.Counts.{specs}
use Rattle.serve_core.specs.Events.{Lease, Leased, Then, Transcript}
use Rattle.serve_core.specs.Headline.{HeadlineLaw, IsDue, IsServed, own_deadlines}
use Rattle.serve_core.specs.Rules.{AllowsLease, IsLegal, grant}
use Rattle.serve_core.specs.Setup.{IsWithin, Setup, StreamSpec}
use Rattle.serve_core.specs.States.{StreamState, deadlines, map_at, past, ready_deadline, state_of, stream_of}
use Rattle.serve_core.proofs.Charges.Demands.{past_of}
use Rattle.serve_core.proofs.Events.Turns.{lease_inv}
use Rattle.serve_core.proofs.Items.Options.{some_and, and_some}
use Rattle.serve_core.proofs.Transcripts.Endings.{close_is, drained_is, legal_before}
use Rattle.serve_core.proofs.Transcripts.Pasts.{delivered_is}

map_map_at : {X Y Z : Type 0} (k : Y → Z) (f : ℕ → X → Y) (i : ℕ) (xs : List X)
    → map k (map_at i f xs) ≡ map_at i (λ s x. k (f s x)) xs
map_map_at k f i [] = refl
map_map_at k f i (x ∷ xs) = ap (λ zs. k (f i x) ∷ zs) (map_map_at k f (suc i) xs)

module _ {F G : Type 0} where
  deadlines_own : (setup : Setup) (p : Transcript F G)
      → deadlines (state_of setup p) ≡ own_deadlines setup p
  deadlines_own setup p =
      map_map_at ready_deadline (λ s spec. stream_of spec (past setup s p)) 0 (specs setup p)

module _ {F G : Type 0} (measures : StreamSpec → F → Bool → Type 0)
    (is_image : StreamSpec → F → G → Type 0) where
  served_is : (setup : Setup) (p : Transcript F G) (s : ℕ) (spec : StreamSpec) → IsWithin setup
      → IsLegal measures is_image setup p → slice_get (specs setup p) s ≡ Some spec
      → IsServed measures is_image setup p s spec
  served_is setup p s spec v l k = record {
    images = delivered_is measures is_image setup p s spec v l k;
    drained = λ q b. (drained_is measures is_image setup p q s spec v l k b).2;
    closed = λ q b c. close_is measures is_image setup p q s spec v l k b c;
  }

  due_is : (setup : Setup) (q : Transcript F G) (w s n g : ℕ)
      → IsLegal measures is_image setup (Then q (Lease w) (Leased s n g)) → IsDue setup q s n g
  due_is setup q w s n g l =
      let m = state_of setup q in
      let given = (lease_inv F G (slice_get m.workers w) (AllowsLease {F = F} {G = G} m (Leased s n g)) s n g
      l.1).1 in
      let x = some_and (slice_get m.streams s) _ given.1 in
      let from = past_of measures is_image setup q s x.0 x.1 in
      let its_own = subst (λ (y : StreamState F). (n ≡ y.finished) × (g ≡ grant setup.quantum y)) from.2 x.2
      in
      record {
        earliest = subst (λ (ds : List (Option ℕ)). IsEarliest ds s) (deadlines_own setup q) given.0;
        granted = and_some (slice_get (specs setup q) s) _ from.0 from.1 its_own;
      }

  pub headline_is : HeadlineLaw measures is_image
  headline_is setup p v l = record {
    streams = λ s spec k. served_is setup p s spec v l k;
    leases = λ q w s n g b.
        due_is setup q w s n g
        (legal_before measures is_image setup (Then q (Lease w) (Leased s n g)) b.0
        (subst (IsLegal measures is_image setup) b.1 l));
  }
