-- What streams hold of the workers.
use Rattle.std.specs.Prelude.{ℕ, ◌+◌, ◌-◌, ◌^◌, ◌≡◌, ◌≢◌, min, Bool, nat_lt, if◌then◌else◌, List, fold}
use Rattle.std.specs.Prelude.{insert, not, ◌&&◌, ◌||◌, Option, None, Some}
use Rattle.std.specs.List.{position_or_len}
use Rattle.cbs_account.specs.Admission.{Fits, Load, share, with_share}
use Rattle.cbs_account.specs.Balance.{IsBandwidth}
use Rattle.serve_core.specs.Streams.{KeptStream}
use Rattle.serve_report.specs.declared.control.answer.Holding.{Holding}
use Rattle.serve_report.specs.declared.control.holders.Holder.{Holder}
use Rattle.serve_report.specs.declared.control.order.Order.{Order}
use Rattle.serve_report.specs.declared.control.shares.Share.{Share}

-- so many workers, of which so much is kept
abbrev pub loaded : (workers kept : ℕ) → Load
loaded workers kept = record { workers = workers; shares = kept }

-- the share of q units in every t is left at a moment beside what is kept of these workers, and kept from
-- then on
pub record IsTaken (workers kept q t moment : ℕ) (taken : Share) : Type 0 where
  pub bandwidth : IsBandwidth q t
  pub fits : Fits (with_share q t (loaded workers kept))
  pub parts : taken.parts ≡ share q t
  pub since : taken.since ≡ moment

-- what is kept for an order from a moment on
abbrev pub share_since : ℕ → Order → Share
share_since moment order = record { parts = share order.q order.t; since = moment }

-- a sum of 64 bits, which stays at its last value
abbrev pub sum_within : ℕ → ℕ → ℕ
sum_within a b = min (a + b) (2 ^ 64 - 1)

-- what a stream holds where it stands so: its share, until its deadline has passed
abbrev pub holding_in : KeptStream → Holding
holding_in stream = record {
  q = stream.state.spec.maximum;
  t = stream.state.spec.period;
  until = stream.state.account.deadline;
}

-- what is noted of a number: the ticket of its stream, unless there is none, and what it holds
abbrev pub noted_at : Option (Option ℕ) → Option KeptStream → Option (ℕ × Holding)
noted_at (Some (Some ticket)) (Some stream) = Some (ticket, holding_in stream)
noted_at ticket stream = None

-- nothing is noted under this ticket here
abbrev pub IsNotUnder : ℕ → Option (ℕ × Holding) → Type 0
IsNotUnder ticket noted = (holding : Holding) → noted ≢ Some (ticket, holding)

-- whether its share isn't free yet at a moment
abbrev pub holds_at : ℕ → Holder → Bool
holds_at moment holder = nat_lt moment holder.holding.until

-- whether that came free since the one moment, and is at the other
abbrev pub has_passed : (freed moment : ℕ) → Holder → Bool
has_passed freed moment holder = holds_at freed holder && not (holds_at moment holder)

-- whether it isn't free yet at the one moment, or came free by the other
abbrev pub is_free_since : (freed moment : ℕ) → Holder → Bool
is_free_since freed moment holder = holds_at moment holder || not (holds_at freed holder)

-- what it holds at a moment
abbrev pub held_at : ℕ → Holder → ℕ
held_at moment holder = if holds_at moment holder then holder.parts else 0

-- and what they do, after so much
abbrev pub held_by : ℕ → List Holder → ℕ
held_by moment holders = fold (λ parts holder. sum_within parts (held_at moment holder)) 0 holders

-- what is kept at a moment, for these and by those
abbrev pub kept_by : {E : Type 0} (share_in : E → Share) → ℕ → List E → List Holder → ℕ
kept_by share_in moment entries holders =
    fold (λ parts entry. sum_within parts (share_in entry).parts) (held_by moment holders) entries

-- the place behind those whose tickets are lower
abbrev pub place_behind : (ticket : ℕ) → List Holder → ℕ
place_behind ticket holders = position_or_len (λ one. nat_lt ticket one.ticket) holders

-- one more, there
abbrev pub with_holder : Holder → List Holder → List Holder
with_holder holder holders = insert holders (place_behind holder.ticket holders) holder
