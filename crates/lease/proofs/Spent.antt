-- What the steps under a lease cost, one step more at a time.
use Rattle.std.proofs.Common.{ℕ, ◌≡◌, ◌+◌, ◌-◌, ◌<◌, ◌≤◌, List, IsSome, length, take, drop, sum, get_or}
use Rattle.std.proofs.Common.{arith, ap, ◌∙◌}
use Rattle.std.proofs.lemmas.List.{get_or-drop, length-drop}
use Rattle.std.proofs.lemmas.List.Sums.{sum_by_more}
use Rattle.filters.specs.Steps.{steps_of}
use Rattle.filters.specs.Costs.{step_costs}
use Rattle.lease.specs.Job.{JobValue, StepsOn}
use Rattle.lease.specs.Lease.{LeaseValue, IsLease, spent_of}

pub spent_more : (costs : List ℕ) (done used : ℕ) → used ≤ done → done < length costs
    → sum (take (used + 1) (drop (done + 1 - (used + 1)) costs)) ≡ sum
    (take used (drop (done - used) costs)) + get_or costs done 0
spent_more costs done used h l =
    let first : done + 1 - (used + 1) ≡ done - used = omega arith in
    let at : done - used + used ≡ done = omega (arith, h) in
    ap (λ n. sum (take (used + 1) (drop n costs))) first
    ∙ sum_by_more (λ n. n) (drop (done - used) costs) used 0
    (omega (arith, h, l, length-drop (done - used) costs))
    ∙ ap (λ cost. sum (take used (drop (done - used) costs)) + cost)
    (get_or-drop (done - used) costs used 0 ∙ ap (λ n. get_or costs n 0) at)

-- a lease under which one step more is done
abbrev pub used_once : LeaseValue → JobValue → LeaseValue
used_once lease job = record lease { job = job; used = lease.used + 1 }

pub spent_once : (lease : LeaseValue) (job : JobValue) → lease.used ≤ lease.job.done
    → lease.job.done < length (step_costs lease.job.chain) → StepsOn lease.job job
    → spent_of (used_once lease job) ≡ spent_of lease + get_or (step_costs lease.job.chain) lease.job.done 0
spent_once lease job h l on =
    let used = lease.used + 1 in
    ap (λ chain. sum (take used (drop (job.done - used) (step_costs chain)))) (ap (λ j. j.chain) on.kept)
    ∙ ap (λ n. sum (take used (drop (n - used) (step_costs lease.job.chain)))) (ap (λ j. j.done) on.kept)
    ∙ spent_more (step_costs lease.job.chain) lease.job.done lease.used h l

pub stays_lease : (lease : LeaseValue) (job : JobValue) → IsLease lease → lease.used < lease.granted
    → IsSome job.scratch → StepsOn lease.job job → IsLease (used_once lease job)
stays_lease lease job is h started on =
    let done : job.done ≡ lease.job.done + 1 = ap (λ j. j.done) on.kept in
    let steps : steps_of job.chain ≡ steps_of lease.job.chain = ap (λ j. steps_of j.chain) on.kept in
    record {
      started = started;
      some = is.some;
      within = omega (arith, h);
      own = omega (arith, done, is.own);
      left = omega (arith, h, done, steps, is.left);
    }
