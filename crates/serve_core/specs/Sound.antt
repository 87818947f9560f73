-- What holds in every state that a legal transcript leads to.
use Rattle.std.specs.Prelude.{ℕ, ◌+◌, ◌*◌, ◌≡◌, ◌≤◌, ◌<◌, length, slice_get, Option, Some, None}
use Rattle.cbs_account.specs.declared.limits.TheConstants.{LAST_MOMENT, MOST_WORKERS}
use Rattle.cbs_account.specs.Balance.{Balance}
use Rattle.serve_core.specs.declared.held.Held.{Held}
use Rattle.serve_core.specs.Grants.{cost_of_first}
use Rattle.serve_core.specs.Setup.{StreamSpec, HasBandwidth, IsWithinLimits, costs, steps, cost}
use Rattle.serve_core.specs.States.{StreamState, State}

-- one where a worker has the stream's frame
abbrev pub out_count : Option ℕ → ℕ
out_count None = 0
out_count (Some w) = 1

-- an account at moment t, after n arrivals and c units
pub record IsPaid (spec : StreamSpec) (t n c : ℕ) (a : Balance) : Type 0 where
  pub maximum : a.maximum ≡ spec.maximum
  pub period : a.period ≡ spec.period
  pub some : 1 ≤ a.budget
  pub most : a.budget ≤ spec.maximum
  pub first : n ≡ 0 → a.deadline ≡ 0
  pub soon : a.deadline ≤ t + spec.period * (1 + c)
  -- with the budget that is left, the units are no more than the bandwidth's part of the time up to the
  -- deadline
  pub paid : 1 ≤ n → (c + a.budget) * spec.period ≤ a.deadline * spec.maximum

module _ {F : Type 0} where
  -- a stream at moment t
  pub record IsSound (t : ℕ) (x : StreamState F) : Type 0 where
    pub limits : IsWithinLimits x.spec
    pub bandwidth : HasBandwidth x.spec
    pub account : IsPaid x.spec t x.accepted x.charged x.account
    pub charged : x.charged ≡ x.finished * cost x.spec + cost_of_first x.done (costs x.spec)
    pub done : x.done ≤ steps x.spec
    -- a frame that isn't out lacks a band, and an idle stream has none done
    pub rest : x.holder ≡ None → x.done < steps x.spec
    pub idle : x.finished ≡ x.accepted → x.done ≡ 0
    pub in_order : x.collected ≤ x.finished
    pub finished : x.finished + out_count x.holder ≤ x.accepted
    -- a frame that is out has room in the outbox when it is finished
    pub outbox : x.finished + out_count x.holder ≤ x.collected + x.spec.outbox
    pub queue : x.accepted ≤ x.finished + x.spec.queue
    pub limit : x.accepted ≤ x.spec.frames
    pub frames : x.collected + length x.frames ≡ x.accepted

  -- what the lease l of worker w says of its stream
  pub record IsLeaseOf (w : ℕ) (l : Held) (x : StreamState F) : Type 0 where
    pub holder : x.holder ≡ Some w
    pub number : l.number ≡ x.finished
    pub some : 1 ≤ l.grant
    pub within : l.grant ≤ steps x.spec
    pub used : l.used ≤ l.grant
    -- the bands that it may still do are there
    pub left : l.grant + x.done ≤ l.used + steps x.spec

  pub record Sound (m : State F) : Type 0 where
    pub clock : m.clock ≤ LAST_MOMENT
    pub quantum : 1 ≤ m.quantum
    pub some_workers : 1 ≤ length m.workers
    pub workers : length m.workers ≤ MOST_WORKERS
    pub streams : (s : ℕ) (x : StreamState F) → slice_get m.streams s ≡ Some x → IsSound m.clock x
    -- a lease is of a stream that it holds, and what holds a stream is a lease of it
    pub leases : (w : ℕ) (l : Held) → slice_get m.workers w ≡ Some (Some l)
        → (x : StreamState F) × (slice_get m.streams l.stream ≡ Some x) × IsLeaseOf w l x
    pub holders : (s : ℕ) (x : StreamState F) (w : ℕ) → slice_get m.streams s ≡ Some x → x.holder ≡ Some w
        → (l : Held) × (slice_get m.workers w ≡ Some (Some l)) × (l.stream ≡ s)
