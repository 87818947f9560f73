-- Entries that are reserved, before and after a call.
use Rattle.std.proofs.Common.{ℕ, ◌+◌, ◌≡◌, Bool, true, false, List, Some, None, slice_get, slice_set, sum_by}
use Rattle.std.proofs.Common.{if◌then◌else◌, ap, arith, subst}
use Rattle.std.proofs.lemmas.List.Sums.{sum_by-set}
use Rattle.std.proofs.lemmas.Option.{get_or_from_slice_get, slice_get_within}
use Rattle.serve_core.specs.declared.held.Held.{Held}
use Rattle.serve_core.specs.Schedule.{ScheduleValue, with_held, with_stream_at}
use Rattle.serve_core.specs.Streams.{KeptStream}
use Rattle.serve_hub.specs.Books.{charges, one_open, one_out, reserved}

-- an item of a sum is changed
sum_set : {X : Type 0} (f : X → ℕ) (xs : List X) (i : ℕ) (x y : X) → slice_get xs i ≡ Some x
    → sum_by f (slice_set xs i y) + f x ≡ sum_by f xs + f y
sum_set f xs i x y e =
    subst (λ z. sum_by f (slice_set xs i y) + f z ≡ sum_by f xs + f y) (get_or_from_slice_get xs i x x e)
    (sum_by-set f xs i y x (slice_get_within xs i x e))

open_still : (old new : KeptStream) → new.state.is_closed ≡ old.state.is_closed → one_open new ≡ one_open old
open_still old new same = ap (λ (b : Bool). if b then 0 else 1) same

pub stream_kept : (x : ScheduleValue) (s : ℕ) (old new : KeptStream) → slice_get x.streams s ≡ Some old
    → new.state.is_closed ≡ old.state.is_closed → reserved (with_stream_at s new x) ≡ reserved x
stream_kept x s old new e same = omega (arith, sum_set one_open x.streams s old new e, open_still old new same)

pub stream_shut : (x : ScheduleValue) (s : ℕ) (old new : KeptStream) → slice_get x.streams s ≡ Some old
    → old.state.is_closed ≡ false → new.state.is_closed ≡ true → reserved (with_stream_at s new x) + 1 ≡ reserved x
stream_shut x s old new e was_open is_shut =
    let was : one_open old ≡ 1 = ap (λ (b : Bool). if b then 0 else 1) was_open in
    let is : one_open new ≡ 0 = ap (λ (b : Bool). if b then 0 else 1) is_shut in
    omega (arith, sum_set one_open x.streams s old new e, was, is)

pub lease_given : (x : ScheduleValue) (w s : ℕ) (held : Held) (old new : KeptStream) → slice_get x.workers w ≡ Some None
    → slice_get x.streams s ≡ Some old → new.state.is_closed ≡ old.state.is_closed
    → reserved (with_held w (Some held) (with_stream_at s new x)) ≡ reserved x + 1
lease_given x w s held old new free e same =
    omega (
      arith,
      sum_set one_out x.workers w None (Some held) free,
      sum_set one_open x.streams s old new e,
      open_still old new same,
    )

pub lease_settled : (x : ScheduleValue) (w s : ℕ) (held : Held) (old new : KeptStream)
    → slice_get x.workers w ≡ Some (Some held) → slice_get x.streams s ≡ Some old
    → new.state.is_closed ≡ old.state.is_closed
    → reserved (with_held w None (with_stream_at s new x)) + 1 ≡ reserved x
lease_settled x w s held old new mine e same =
    omega (
      arith,
      sum_set one_out x.workers w (Some held) None mine,
      sum_set one_open x.streams s old new e,
      open_still old new same,
    )

-- what the streams were charged
pub charged_more : (x : ScheduleValue) (s k : ℕ) (old new : KeptStream) → slice_get x.streams s ≡ Some old
    → new.state.charged ≡ old.state.charged + k → charges (with_stream_at s new x) ≡ charges x + k
charged_more x s k old new e more =
    omega (arith, sum_set (λ (stream : KeptStream). stream.state.charged) x.streams s old new e, more)

pub charged_still : (x : ScheduleValue) (s : ℕ) (old new : KeptStream) → slice_get x.streams s ≡ Some old
    → new.state.charged ≡ old.state.charged → charges (with_stream_at s new x) ≡ charges x
charged_still x s old new e same =
    omega (arith, sum_set (λ (stream : KeptStream). stream.state.charged) x.streams s old new e, same)
