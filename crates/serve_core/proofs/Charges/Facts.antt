-- What a sound state says of a lease and its stream, so that its bands can be done and charged.
use Rattle.std.proofs.Common.{ℕ, zero, suc, ◌+◌, ◌*◌, ◌^◌, ◌≡◌, ◌≤◌, ◌<◌, List, [], ◌∷◌, take, drop, Some}
use Rattle.std.proofs.Common.{slice_get, refl, ◌∙◌, ap, subst, arith}
use Rattle.filters.specs.declared.limits.TheConstants.{MOST_COST}
use Rattle.cbs_account.specs.Rules.{CanCharge}
use Rattle.serve_core.specs.declared.held.Held.{Held}
use Rattle.y4m_header.specs.declared.limits.TheConstants.{MOST_FRAMES}
use Rattle.serve_core.specs.AtOnce.{cost_of_next}
use Rattle.serve_core.specs.Grants.{cost_of_first}
use Rattle.serve_core.specs.Setup.{cost, costs, steps}
use Rattle.serve_core.specs.Sound.{IsLeaseOf, Sound, out_count}
use Rattle.serve_core.specs.States.{State, StreamState, next_cost}
use Rattle.serve_core.proofs.Bands.Costs.{cost_more, cost_within, sum_cons}
use Rattle.serve_core.proofs.Charges.Demands.{chargeable, few_units}
use Rattle.serve_core.proofs.Events.Soundness.{one_item}

-- the first bands, and then the next ones
none_first : (k : ℕ) → cost_of_first k [] ≡ 0
none_first zero = refl
none_first (suc k) = refl

first_next : (d k : ℕ) (cs : List ℕ) → cost_of_first (d + k) cs
    ≡ cost_of_first d cs + cost_of_first k (drop d cs)
first_next zero k cs = let e : 0 + k ≡ k = omega arith in ap (λ (n : ℕ). cost_of_first n cs) e ∙ omega arith
first_next (suc d) k [] = omega (arith, none_first (suc d + k), none_first (suc d), none_first k)
first_next (suc d) k (c ∷ cs) =
    let e : suc d + k ≡ suc (d + k) = omega arith in
    ap (λ (n : ℕ). cost_of_first n (c ∷ cs)) e
    ∙ omega (arith, first_next d k cs, sum_cons c (take (d + k) cs), sum_cons c (take d cs))

module _ {F : Type 0} where
  -- the lease's stream is out to its worker
  pub lease_of : (m : State F) (w : ℕ) (l : Held) (x : StreamState F) → Sound m
      → slice_get m.workers w ≡ Some (Some l) → slice_get m.streams l.stream ≡ Some x → IsLeaseOf w l x
  lease_of m w l x h e f =
      let old = h.leases w l e in
      subst (IsLeaseOf w l) (one_item m.streams l.stream l.stream old.0 x refl old.1 f) old.2

  -- units that the stream's frame still needs
  pub can_charge : (m : State F) (w k : ℕ) (l : Held) (x : StreamState F) → Sound m
      → slice_get m.workers w ≡ Some (Some l) → slice_get m.streams l.stream ≡ Some x
      → cost_of_first x.done (costs x.spec) + k ≤ cost x.spec
      → CanCharge k x.account × (x.charged + k < 2 ^ 64)
  can_charge m w k l x h e f n =
      let s = h.streams l.stream x f in
      let out : out_count x.holder ≡ 1 = ap out_count (lease_of m w l x h e f).holder in
      let unfinished : x.finished < x.accepted = omega (arith, s.finished, out) in
      let done = cost_of_first x.done (costs x.spec) in
      let few : x.finished * cost x.spec + done + k ≤ MOST_FRAMES * MOST_COST =
      few_units x.finished x.accepted (cost x.spec) done k MOST_FRAMES MOST_COST unfinished
      (omega (arith, s.limit, s.limits.frames)) n s.limits.cost in
      (chargeable m.clock x k h.clock s unfinished n, omega (arith, few, s.charged))

  -- bands that are left of the lease: they are left of the frame, and can be charged
  pub bands_left : (m : State F) (w k : ℕ) (l : Held) (x : StreamState F) → Sound m
      → slice_get m.workers w ≡ Some (Some l) → slice_get m.streams l.stream ≡ Some x → l.used + k ≤ l.grant
      → (x.done + k ≤ steps x.spec) × CanCharge (cost_of_next k x) x.account
      × (x.charged + cost_of_next k x < 2 ^ 64)
  bands_left m w k l x h e f u =
      let mine = lease_of m w l x h e f in
      let within : cost_of_first x.done (costs x.spec) + cost_of_next k x ≤ cost x.spec =
      omega (arith, first_next x.done k (costs x.spec), cost_within (x.done + k) (costs x.spec)) in
      let can = can_charge m w (cost_of_next k x) l x h e f within in
      (omega (arith, mine.left), can.0, can.1)

  -- one band
  pub band_left : (m : State F) (w : ℕ) (l : Held) (x : StreamState F) → Sound m
      → slice_get m.workers w ≡ Some (Some l) → slice_get m.streams l.stream ≡ Some x → l.used < l.grant
      → (x.done < steps x.spec) × CanCharge (next_cost x) x.account
      × (x.charged + next_cost x < 2 ^ 64)
  band_left m w l x h e f u =
      let mine = lease_of m w l x h e f in
      let left : x.done < steps x.spec = omega (arith, mine.left) in
      let within : cost_of_first x.done (costs x.spec) + next_cost x ≤ cost x.spec =
      omega (arith, cost_more x.done (costs x.spec) left, cost_within (x.done + 1) (costs x.spec)) in
      let can = can_charge m w (next_cost x) l x h e f within in
      (left, can.0, can.1)
