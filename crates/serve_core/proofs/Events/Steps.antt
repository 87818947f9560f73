-- A deed of one stream and a change of one lease, in the lists of all.
use Rattle.std.proofs.Common.{ℕ, zero, suc, ◌+◌, ◌≡◌, ◌≢◌, List, [], ◌∷◌, Option, Some, None, Bool, true}
use Rattle.std.proofs.Common.{false, nat_eq, slice_get, slice_set, refl, sym, ◌∙◌, ap, arith, if◌then◌else◌}
use Rattle.std.proofs.lemmas.Bool.Decides.{nat_tests}
use Rattle.serve_core.specs.declared.held.Held.{Held}
use Rattle.serve_core.specs.Counts.{Deed}
use Rattle.serve_core.specs.States.{State, StreamState, did_any, held_at, map_at}
use Rattle.serve_core.proofs.Items.Lists.{map_at_kept, map_at_one}

abbrev pub new_lease : ℕ → ℕ → ℕ → Held
new_lease s n g = record { stream = s; number = n; grant = g; used = 0 }

pub held_at_is : (ws : List (Option Held)) (w : ℕ) (h : Option Held) → slice_get ws w ≡ Some h
    → held_at ws w ≡ h
held_at_is [] w h e = absurd (cc)
held_at_is (g ∷ gs) zero h e = cc
held_at_is (g ∷ gs) (suc w) h e = held_at_is gs w h e

quiet_lease : (b : Bool) (h : Option Held) → (if b then h else h) ≡ h
quiet_lease true h = refl
quiet_lease false h = refl

-- an event that changes no lease, whoever asked
pub quiet_workers : (b : ℕ → Bool) (ws : List (Option Held)) → ws ≡ map_at 0 (λ w h. if b w then h else h) ws
quiet_workers b ws = sym (map_at_kept (λ w h. if b w then h else h) 0 ws (λ t y l. quiet_lease (b t) y))

other_lease : (f : Option Held → Option Held) (w v : ℕ) (h : Option Held) → v ≢ w + 0
    → (if nat_eq w v then f h else h) ≡ h
other_lease f w v h n = grind (arith, nat_tests)

this_lease : (f : Option Held → Option Held) (w : ℕ) (h : Option Held)
    → (if nat_eq w (w + 0) then f h else h) ≡ f h
this_lease f w h = grind (arith, nat_tests)

-- one lease changes
pub one_lease : (f : Option Held → Option Held) (w : ℕ) (ws : List (Option Held)) (h : Option Held)
    → slice_get ws w ≡ Some h → map_at 0 (λ v g. if nat_eq w v then f g else g) ws ≡ slice_set ws w (f h)
one_lease f w ws h e =
    map_at_one (λ v g. if nat_eq w v then f g else g) 0 w ws h e (other_lease f w)
    ∙ ap (slice_set ws w) (this_lease f w h)

module _ {F : Type 0} where
  abbrev pub state : ℕ → ℕ → List (StreamState F) → List (Option Held) → State F
  state t q streams workers = record { clock = t; quantum = q; streams = streams; workers = workers }

  pub state_is : (t q : ℕ) (xs ys : List (StreamState F)) (vs ws : List (Option Held)) → xs ≡ ys → vs ≡ ws
      → state t q xs vs ≡ state t q ys ws
  state_is t q xs ys vs ws e f = cc

  quiet_one : (b : Bool) (y : StreamState F) → did_any y (if b then None else None) ≡ y
  quiet_one true y = refl
  quiet_one false y = refl

  -- an event that changes no stream, whichever it was about
  pub quiet_streams : (b : ℕ → Bool) (xs : List (StreamState F))
      → xs ≡ map_at 0 (λ t y. did_any y (if b t then None else None)) xs
  quiet_streams b xs =
      sym (map_at_kept (λ t y. did_any y (if b t then None else None)) 0 xs (λ t y l. quiet_one (b t) y))

  other_stream : (o : Option (Deed F)) (s t : ℕ) (y : StreamState F) → t ≢ s + 0
      → did_any y (if nat_eq s t then o else None) ≡ y
  other_stream o s t y n = grind (arith, nat_tests)

  this_stream : (o : Option (Deed F)) (s : ℕ) (y : StreamState F)
      → did_any y (if nat_eq s (s + 0) then o else None) ≡ did_any y o
  this_stream o s y = grind (arith, nat_tests)

  -- a deed of one stream
  pub one_stream : (o : Option (Deed F)) (s : ℕ) (xs : List (StreamState F)) (x : StreamState F)
      → slice_get xs s ≡ Some x
      → map_at 0 (λ t y. did_any y (if nat_eq s t then o else None)) xs ≡ slice_set xs s (did_any x o)
  one_stream o s xs x e =
      map_at_one (λ t y. did_any y (if nat_eq s t then o else None)) 0 s xs x e (other_stream o s)
      ∙ ap (slice_set xs s) (this_stream o s x)
