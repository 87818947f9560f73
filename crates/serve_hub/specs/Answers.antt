-- How a book answers: as its desk, but where the journal is full or a lease isn't the worker's.
use Rattle.std.specs.Prelude.{ℕ, ◌≡◌, ◌≤◌, ◌<◌, ◌⊎◌, Bool, true, false, Option, Some, None, IsSome}
use Rattle.std.specs.Prelude.{IsSomeAnd, slice_get}
use Rattle.frame_view.specs.declared.geometry.Geometry.{Geometry}
use Rattle.lease.specs.Lease.{LeaseValue}
use Rattle.serve_core.specs.declared.refusal.Refusal as core
use Rattle.serve_core.specs.declared.refusal.Refusal.TheVariants as cores
use Rattle.serve_core.specs.Desk as desks
use Rattle.serve_core.specs.Desk.{SomeReady}
use Rattle.serve_core.specs.Schedule as schedules
use Rattle.serve_core.specs.Schedule.{HasStream, RefusesCollect, RefusesLease, ScheduleValue}
use Rattle.serve_core.specs.Setup.{StreamSpec}
use Rattle.serve_hub.specs.declared.entry.Settled as code
use Rattle.serve_hub.specs.declared.entry.Settled.TheVariants as settled
use Rattle.serve_hub.specs.declared.refusal.Refusal.{Refusal}
use Rattle.serve_hub.specs.declared.refusal.Refusal.TheVariants.{Core, HistoryFull, StrayLease}
use Rattle.serve_hub.specs.Books.{BookValue, IsOut, room}

-- a call that needs so many entries is answered as the desk answers it, but by HistoryFull where the desk
-- would accept it and fewer entries are left
abbrev pub WithRoom : (need : ℕ) → BookValue → (Option core.Refusal → Type 0) → Option Refusal → Type 0
WithRoom need b IsAnswer None = IsAnswer None × (need ≤ room b)
WithRoom need b IsAnswer (Some (Core e)) = IsAnswer (Some e)
WithRoom need b IsAnswer (Some HistoryFull) = IsAnswer None × (room b < need)
WithRoom need b IsAnswer (Some e) = ⊥

-- how a call is refused for which too few entries are left
abbrev pub or_full : Option core.Refusal → Refusal
or_full None = HistoryFull
or_full (Some e) = Core e

-- the answer to a frame of this geometry, want of memory aside: a refusal, or none
abbrev pub IsOfferAnswer : BookValue → (s at : ℕ) → Geometry → Option Refusal → Type 0
IsOfferAnswer b s at geometry answer = WithRoom 1 b (desks.IsOfferAnswer b.desk s at geometry) answer

-- why an offer of a frame is refused: for want of memory only where it is accepted but for that
abbrev pub RefusesOffer : BookValue → (s at : ℕ) → Geometry → Refusal → Type 0
RefusesOffer b s at geometry e =
    IsOfferAnswer b s at geometry (Some e)
    ⊎ (e ≡ Core cores.NoMemory) × IsOfferAnswer b s at geometry None

-- the answer to a job that was made outside
abbrev pub IsJobAnswer : BookValue → (s at : ℕ) → Option Refusal → Type 0
IsJobAnswer b s at answer = WithRoom 1 b (λ e. desks.job_refusal b.desk s at ≡ e) answer

-- the answer to a stream that is to be admitted, want of memory aside: it needs its own entry and that of its
-- close
abbrev pub IsAdmitAnswer : BookValue → StreamSpec → Option Refusal → Type 0
IsAdmitAnswer b spec answer = WithRoom 2 b (schedules.IsAdmitAnswer b.desk spec) answer

-- why it isn't admitted
abbrev pub RefusesAdmission : BookValue → StreamSpec → Refusal → Type 0
RefusesAdmission b spec e =
    IsAdmitAnswer b spec (Some e) ⊎ (e ≡ Core cores.NoMemory) × IsAdmitAnswer b spec None

-- how the desk answers a worker that asks for a lease, and a stream that asks for an image
abbrev pub DeskLends : ScheduleValue → (w : ℕ) → Option core.Refusal → Type 0
DeskLends x w None = (slice_get x.workers w ≡ Some None) × SomeReady x
DeskLends x w (Some e) = RefusesLease x w e

abbrev pub DeskGives : ScheduleValue → (s : ℕ) → Option core.Refusal → Type 0
DeskGives x s None = HasStream x s (λ stream. stream.state.collected < stream.state.finished)
DeskGives x s (Some e) = RefusesCollect x s e

-- a lease needs its own entry and that of its settlement
abbrev pub IsLeaseAnswer : BookValue → (w : ℕ) → Option Refusal → Type 0
IsLeaseAnswer b w answer = WithRoom 2 b (DeskLends b.desk w) answer

abbrev pub IsCollectAnswer : BookValue → (s : ℕ) → Option Refusal → Type 0
IsCollectAnswer b s answer = WithRoom 1 b (DeskGives b.desk s) answer

-- why a stream isn't closed
abbrev pub RefusesClose : BookValue → (s : ℕ) → Refusal → Type 0
RefusesClose b s (Core e) = desks.RefusesClose b.desk s e
RefusesClose b s e = ⊥

-- why a worker can't give a lease back: it holds none, or another
abbrev pub RefusesSettle : BookValue → (w : ℕ) → LeaseValue → Refusal → Type 0
RefusesSettle b w lease (Core e) = desks.RefusesSettle b.desk w e
RefusesSettle b w lease StrayLease = IsSomeAnd (slice_get b.desk.workers w) IsSome × ¬ IsOut b w lease
RefusesSettle b w lease e = ⊥

-- what a settlement answers, as its entry has it
abbrev pub is_finished : code.Settled → Bool
is_finished settled.Returned = false
is_finished (settled.Finished number) = true

-- the lease's job is at the front of its stream again, or its source and image are the last of its images
abbrev pub TakesLease : (w : ℕ) → LeaseValue → code.Settled → (old new : ScheduleValue) → Type 0
TakesLease w lease settled.Returned old new = desks.TakesBack w lease old new
TakesLease w lease (settled.Finished number) old new = desks.TakesImage w lease number old new

-- a frame that has this number if it is finished
abbrev pub settled_as : Option ℕ → code.Settled
settled_as None = settled.Returned
settled_as (Some number) = settled.Finished number
