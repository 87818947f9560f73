-- A lease: the leave to do some steps of a job.
use Rattle.std.specs.Prelude.{◌≡◌, ◌↔◌, ℕ, ◌+◌, ◌-◌, ◌≤◌, IsSome, take, drop, sum}
use Rattle.std.specs.Prelude.{Result, IsErr, OnOk, OnErr, slice_index}
use Rattle.filters.specs.Steps.{steps_of}
use Rattle.filters.specs.Costs.{step_costs}
use Rattle.lease.specs.Job.{JobValue, StepsOn}

pub record LeaseValue : Type 0 where
  pub job : JobValue
  -- the job's stream, and its number in it
  pub stream : ℕ
  pub number : ℕ
  -- how many steps the lease may do, and how many of these are done
  pub granted : ℕ
  pub used : ℕ

-- what the steps cost that were done under a lease: the last ones of the job's that are done
abbrev pub spent_of : LeaseValue → ℕ
spent_of lease = sum (take lease.used (drop (lease.job.done - lease.used) (step_costs lease.job.chain)))

-- what a lease always is
pub record IsLease (lease : LeaseValue) : Type 0 where
  pub started : IsSome lease.job.scratch
  pub some : 1 ≤ lease.granted
  pub within : lease.used ≤ lease.granted
  pub own : lease.used ≤ lease.job.done
  pub left : lease.job.done + (lease.granted - lease.used) ≤ steps_of lease.job.chain

-- what a step under a lease does: it is refused where all that were granted are done; else one step more of
-- the job is done, which counts and is paid for
pub record TakesStep {T E : Type 0} (old new : LeaseValue) (answer : Result T E) : Type 0 where
  pub refused : IsErr answer ↔ (old.used ≡ old.granted)
  pub err : OnErr answer (new ≡ old)
  pub chain : new.job.chain ≡ old.job.chain
  pub source : new.job.source ≡ old.job.source
  pub done : OnOk answer (new.job.done ≡ old.job.done + 1)
  pub step : OnOk answer (StepsOn old.job new.job)
  pub used : OnOk answer (new ≡ record old { job = new.job; used = old.used + 1 })
  pub spent : OnOk answer (spent_of new
      ≡ spent_of old + slice_index (step_costs old.job.chain) old.job.done)

-- no step is done under the lease
abbrev pub granted_of : JobValue → ℕ → ℕ → ℕ → LeaseValue
granted_of job stream number grant = record {
  job = job;
  stream = stream;
  number = number;
  granted = grant;
  used = 0;
}
