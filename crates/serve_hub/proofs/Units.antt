-- The units of transcripts that follow one another, and of bands.
use Rattle.std.proofs.Common.{ℕ, zero, suc, ◌+◌, ◌≡◌, ◌≤◌, nat_eq, Bool, true, false, Some, None, Option, slice_get}
use Rattle.std.proofs.Common.{if◌then◌else◌, List, refl, sym, ap, arith}
use Rattle.serve_core.specs.declared.held.Held.{Held}
use Rattle.serve_core.specs.AtOnce.{at_once, bands, cost_of_next, with_used}
use Rattle.serve_core.specs.Bare.{Blank, measures_any, is_any_image}
use Rattle.serve_core.specs.Events.{Band, Start, Stepped, Then, Transcript, joined}
use Rattle.serve_core.specs.Leads.{state_from}
use Rattle.serve_core.specs.Setup.{StreamSpec}
use Rattle.serve_core.specs.States.{State, StreamState, held_at}
use Rattle.serve_core.proofs.Charges.AtOnce.{at_once_is, lease_at_once, next_more, stream_at_once}
use Rattle.serve_core.proofs.Events.Steps.{held_at_is}
use Rattle.serve_core.proofs.Transcripts.Openings.{joined_state}
use Rattle.serve_hub.specs.declared.entry.Act.TheVariants.{Offered}
use Rattle.serve_hub.specs.declared.entry.Seat.TheVariants.{Stream}
use Rattle.serve_hub.specs.Journal.{admission_of, event_units, events_of, lease_cost, units_from}

pub units_joined : (o : State Blank) (w : ℕ) (p q : Transcript Blank Blank)
    → units_from o w (joined p q) ≡ units_from o w p + units_from (state_from o p) w q
units_joined o w p Start = omega arith
units_joined o w p (Then q e r) =
    let more = units_joined o w p q in
    let same = ap (λ (n : State Blank). event_units w n e r) (joined_state o p q) in
    omega (arith, more, same)

pub offer_units : (specs : List StreamSpec) (m : State Blank) (w s : ℕ) (tick : Option ℕ) (n : ℕ)
    → units_from m w (events_of specs m (Stream s) (Offered tick n)) ≡ 0
offer_units specs m w s None n = refl
offer_units specs m w s (Some t) n = refl

-- an admission has none
pub admission_units : (m : State Blank) (w s : ℕ) (spec : Option StreamSpec)
    → units_from m w (admission_of s spec) ≡ 0
admission_units m w s None = refl
admission_units m w s (Some spec) = refl

-- one band more
next_band : (m : State Blank) (w k : ℕ) (l : Held) (x : StreamState Blank)
    → slice_get m.workers w ≡ Some (Some l) → slice_get m.streams l.stream ≡ Some x
    → lease_cost (at_once m w k l x) (held_at (at_once m w k l x).workers w) + cost_of_next k x
    ≡ cost_of_next (suc k) x
next_band m w k l x e f =
    let n : State Blank = at_once m w k l x in
    rw (held_at_is n.workers w (Some (with_used k l)) (lease_at_once m w k l x e))
    (rw (stream_at_once m w k l x f) (sym (next_more k x)))

counted : (b : Bool) (a c d : ℕ) → c + a ≡ d → (if b then a else 0) + (if b then c else 0) ≡ (if b then d else 0)
counted true a c d e = omega (arith, e)
counted false a c d e = refl

no_band : (b : Bool) → ◌≡◌ {A = ℕ} 0 (if b then 0 else 0)
no_band true = refl
no_band false = refl

-- the bands of worker v's lease l of stream x
pub bands_units : (m : State Blank) (w v k : ℕ) (l : Held) (x : StreamState Blank)
    → slice_get m.workers v ≡ Some (Some l) → slice_get m.streams l.stream ≡ Some x → l.used + k ≤ l.grant
    → units_from m w (bands v k) ≡ (if nat_eq v w then cost_of_next k x else 0)
bands_units m w v zero l x e f u = no_band (nat_eq v w)
bands_units m w v (suc k) l x e f u =
    let before = bands_units m w v k l x e f (omega arith) in
    let here = at_once_is measures_any is_any_image m v k l x e f (omega arith) in
    let more = ap (λ (n : State Blank). event_units w n (Band v) Stepped) here.1 in
    rw (before, more) (counted (nat_eq v w) (cost_of_next k x) _ (cost_of_next (suc k) x)
    (next_band m v k l x e f))
