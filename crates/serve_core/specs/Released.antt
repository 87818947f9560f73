-- Streams that are released, and the shares that the others hold.
use Rattle.std.specs.Prelude.{ℕ, ◌+◌, Bool, not, ◌&&◌, nat_eq, nat_le, List, length, filter, sum_by}
use Rattle.std.specs.Prelude.{if◌then◌else◌}
use Rattle.cbs_account.specs.Admission.{Load, share}
use Rattle.cbs_account.specs.Admission as admission
use Rattle.serve_core.specs.States.{State, StreamState}

module _ {F : Type 0} where
  -- a stream is released where it is closed, all its frames are finished and collected, and the moment has
  -- reached its deadline: what it could ask of the workers is past
  abbrev pub is_released : ℕ → StreamState F → Bool
  is_released moment x = x.is_closed && (nat_eq x.accepted x.finished
      && (nat_eq x.finished x.collected && nat_le x.account.deadline moment))

  -- a stream holds its share until it is released
  abbrev pub held_share : ℕ → StreamState F → ℕ
  held_share moment x = if is_released moment x then 0 else share x.spec.maximum x.spec.period

  -- the share that a stream holds comes to a load
  abbrev pub with_held_share : ℕ → StreamState F → Load → Load
  with_held_share moment x load =
      record { workers = load.workers; shares = load.shares + held_share moment x }

  -- the workers, and the shares that are held of them
  abbrev pub held_load : State F → Load
  held_load m = record { workers = length m.workers; shares = sum_by (held_share m.clock) m.streams }

  -- the shares that are held are at most the whole of the workers
  abbrev pub StillFits : State F → Type 0
  StillFits m = admission.Fits (held_load m)

  abbrev pub unreleased : State F → List (StreamState F)
  unreleased m = filter (λ x. not (is_released m.clock x)) m.streams
