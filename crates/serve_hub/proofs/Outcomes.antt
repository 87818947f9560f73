-- What a settlement says of its lease.
use Rattle.std.proofs.Common.{ℕ, ◌+◌, ◌≡◌, length, Some, slice_get, sym, ◌∙◌, ap, subst, refl, Bool}
use Rattle.std.specs.Prelude.{MatchBool, ⊤}
use Rattle.filters.specs.Chain.{ChainValue}
use Rattle.filters.specs.Costs.{step_costs}
use Rattle.filters.specs.Steps.{steps_of}
use Rattle.lease.specs.Lease.{LeaseValue}
use Rattle.serve_core.specs.Schedule.{ScheduleValue}
use Rattle.serve_core.specs.Setup.{steps}
use Rattle.serve_core.specs.Streams.{KeptStream}
use Rattle.serve_core.proofs.Bands.Costs.{steps_are}
use Rattle.serve_core.proofs.Items.Options.{some_and}
use Rattle.serve_hub.specs.declared.entry.Settled as code
use Rattle.serve_hub.specs.declared.entry.Settled.TheVariants as settled
use Rattle.serve_hub.specs.Answers.{TakesLease}
use Rattle.serve_hub.specs.Books.{BookValue, IsOut}
use Rattle.serve_hub.specs.Calls.{IsOutcome}

-- the job of a lease that is out has its stream's chain and bands
out_here : (b : BookValue) (w : ℕ) (lease : LeaseValue) → IsOut b w lease → (stream : KeptStream)
    → slice_get b.desk.streams lease.stream ≡ Some stream
    → (lease.job.done ≡ stream.state.done + lease.used) × (steps stream.state.spec ≡ steps_of lease.job.chain)
out_here b w lease out stream e =
    let h = some_and (slice_get b.desk.workers w) _ out in
    let l = some_and h.0 _ h.2 in
    let r = some_and (slice_get b.desk.streams l.0.stream) _ l.2 in
    let at : slice_get b.desk.streams lease.stream ≡ Some r.0 =
    subst (λ (s : ℕ). slice_get b.desk.streams s ≡ Some r.0) (sym r.2.stream) r.1 in
    let same : r.0 ≡ stream = cc in (
      r.2.done ∙ ap (λ (x : KeptStream). x.state.done + lease.used) same,
      ap (λ (x : KeptStream). steps x.state.spec) (sym same)
          ∙ ap (λ (chain : ChainValue). length (step_costs chain)) (sym r.2.chain) ∙ steps_are lease.job.chain,
    )

pub outcome : (b : BookValue) (w : ℕ) (lease : LeaseValue) (done : code.Settled) (new : ScheduleValue)
    → IsOut b w lease → TakesLease w lease done b.desk new → IsOutcome lease done
outcome b w lease settled.Returned new out took =
    let here = out_here b w lease out took.stream took.here in
    record { all = (λ f. absurd (subst (λ (b : Bool). MatchBool b ⊥ ⊤) f tt), λ e. absurd (took.left (sym here.0 ∙ e ∙ sym here.1))) }
outcome b w lease (settled.Finished n) new out took =
    let here = out_here b w lease out took.stream took.here in
    record { all = (λ t. here.0 ∙ took.all ∙ here.1, λ e. refl) }
