use Rattle.std.proofs.Common.{ℕ, ◌+◌, ◌≡◌, Result, Ok, Err, OnOk, OnErr, Some, None, slice_get, refl, sym, ◌∙◌, ap, subst, arith}
use Rattle.std.specs.Prelude.{⊤}
use Rattle.std.proofs.lemmas.Option.{slice_get_within}
use Rattle.lease.specs.declared.lease.GrantSpent.{GrantSpent}
use Rattle.lease.specs.Lease.{LeaseValue}
use Rattle.serve_core.specs.declared.held.Held.{Held}
use Rattle.serve_core.specs.Desk.{GivesJob, IsRecorded, given, held_of}
use Rattle.serve_core.specs.Schedule.{ScheduleValue}
use Rattle.serve_core.specs.Streams.{KeptStream}
use Rattle.serve_core.proofs.Items.Lists.{slice_get_set_same}
use Rattle.serve_core_tests.proofs.tests.fullest.work_at.Goals as goal

-- a lease that is given is what its worker holds
given_recorded : (x y : ScheduleValue) (w : ℕ) (lease : LeaseValue) (held : Held) (stream : KeptStream)
    → slice_get x.workers w ≡ Some None → GivesJob w lease x y → slice_get y.workers w ≡ Some (Some held)
    → slice_get y.streams held.stream ≡ Some stream → IsRecorded lease held stream
given_recorded x y w lease held stream free gives holds here =
    let its = given w gives.stream in
    let mine : slice_get y.workers w ≡ Some (Some (held_of lease)) =
    rw gives.schedule (slice_get_set_same x.workers w (Some (held_of lease)) (slice_get_within x.workers w None free)) in
    let there : slice_get y.streams lease.stream ≡ Some its =
    rw gives.schedule (slice_get_set_same x.streams lease.stream its
    (slice_get_within x.streams lease.stream gives.stream gives.here)) in
    let same : held ≡ held_of lease = (let both : Some (Some held) ≡ Some (Some (held_of lease)) = sym holds ∙ mine in cc) in
    let one : stream ≡ its = (let both : Some stream ≡ Some its =
    sym (ap (λ (h : Held). slice_get y.streams h.stream) (sym same) ∙ here) ∙ there in cc) in
    let made : IsRecorded lease (held_of lease) its = record {
      stream = refl;
      number = refl;
      grant = refl;
      chain = gives.started.of_chain;
      done = omega (arith, gives.started.steps, gives.none_used);
    } in
    subst (λ (h : Held). IsRecorded lease h stream) (sym same)
    (subst (λ (l : KeptStream). IsRecorded lease (held_of lease) l) (sym one) made)

-- and so is the lease with a step more
step_recorded : (r : Result ⊤ GrantSpent) (old new : LeaseValue) (held : Held) (stream : KeptStream) → IsRecorded old held stream
    → OnErr r (new ≡ old) → new.job.chain ≡ old.job.chain → OnOk r (new.job.done ≡ old.job.done + 1)
    → OnOk r (new ≡ record old { job = new.job; used = old.used + 1 }) → IsRecorded new held stream
step_recorded (Ok x) old new held stream h err chain done used =
    let count : new.used ≡ old.used + 1 = ap (λ (l : LeaseValue). l.used) used in
    record {
      stream = ap (λ (l : LeaseValue). l.stream) used ∙ h.stream;
      number = ap (λ (l : LeaseValue). l.number) used ∙ h.number;
      grant = ap (λ (l : LeaseValue). l.granted) used ∙ h.grant;
      chain = chain ∙ h.chain;
      done = omega (arith, done, count, h.done);
    }
step_recorded (Err e) old new held stream h err chain done used =
    subst (λ (l : LeaseValue). IsRecorded l held stream) (sym err) h

pub settle-requires : goal.settle-requires
settle-requires c = λ held stream holds here.
    let lent = given_recorded _ _ 0 c.in-Ok.lease held stream c.in-Ok.ensures.free c.in-Ok.ensures.job holds here in
    let step = c.step-stepped.ensures in
    step_recorded _ c.in-Ok.lease _ held stream lent step.err step.chain step.done step.used
