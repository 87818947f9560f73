-- Workers that hold no lease.
use Rattle.std.proofs.Common.{ℕ, ◌≡◌, ◌≢◌, true, false, IfErr, IfOk, MatchOption, Option, Some, None, Result, Ok, Err}
use Rattle.std.proofs.Common.{is_ok, slice_get, subst}
use Rattle.serve_core.specs.declared.held.Held.{Held}
use Rattle.serve_core.specs.declared.refusal.Refusal.{Refusal}
use Rattle.serve_core.specs.declared.refusal.Refusal.TheVariants as refusals
use Rattle.serve_core.specs.Desk.{RefusesSettle}
use Rattle.serve_core.specs.Retired.{AreFree}
use Rattle.serve_core.specs.Schedule.{HasLease, ScheduleValue}

-- a worker that has nothing to settle holds no lease
pub not_held : (x : ScheduleValue) (w : ℕ) (r : Result Held Refusal) → is_ok r ≡ false → IfErr r (RefusesSettle x w)
    → (held : Held) → slice_get x.workers w ≢ Some (Some held)
not_held x w (Ok h) bad told held here = absurd (cc)
not_held x w (Err e) bad told held here =
    let none =
    subst (λ (o : Option (Option Held)). MatchOption o (e ≡ refusals.NoWorker) (λ h.
    (h ≡ None) × (e ≡ refusals.NoLease))) here told in
    let not : Some held ≡ None = none.0 in absurd (cc)

-- where one has something to settle, they aren't all free
pub held_here : (x : ScheduleValue) (w : ℕ) (r : Result Held Refusal) → is_ok r ≡ true → IfOk r (HasLease x w)
    → ¬ AreFree x.workers
held_here x w (Ok held) good told free = free w held told
held_here x w (Err e) good told free = absurd (cc)
