use Rattle.std.proofs.Common.{rules, ◌≡◌, ◌+◌, arith, ap, sym, ◌∙◌}
use Rattle.std.proofs.lemmas.Option.{get_or_from_slice_get, slice_get_within}
use Rattle.filters.specs.Costs.{step_costs}
use Rattle.lease.specs.Lease.{spent_of}
use Rattle.lease.specs.LeaseInside.{lease_of}
use Rattle.lease.proofs.Spent.{used_once, spent_once, stays_lease}
use Rattle.lease.proofs.lease.Lease.step.Goals as goal

pub invariant_of-self : goal.invariant_of-self
invariant_of-self c =
    let lease = lease_of c.self.inside in
    let is = c.self.invariant.lease in
    let cost = c.next_cost.ensures.value in
    let more : spent_of (used_once lease c.step.new.self) ≡ spent_of lease + c.next_cost.result =
    spent_once lease c.step.new.self is.own (slice_get_within _ _ _ cost) c.step.ensures.step
    ∙ ap (λ units. spent_of lease + units)
    (get_or_from_slice_get (step_costs lease.job.chain) lease.job.done c.next_cost.result 0 cost) in
    record {
      lease = stays_lease lease c.step.new.self is
          (omega (arith, is.within, c.if-self.false)) c.step.ensures.started c.step.ensures.step;
      spent = ap (λ units. units + c.next_cost.result) c.self.invariant.spent ∙ sym more;
      cheap = omega (arith, c.self.invariant.cheap, c.next_cost.ensures.within_limit);
    }

pub returns : goal.returns
returns c = record {
  refused = search rules;
  err = search rules;
  chain = search rules;
  source = search rules;
  done = search rules;
  step = search rules;
  used = search rules;
  spent = rw (sym c.self.view_is)
      (spent_once (lease_of c.self.inside) c.step.new.self c.self.invariant.lease.own
      (slice_get_within _ _ _ c.next_cost.ensures.value) c.step.ensures.step);
}
