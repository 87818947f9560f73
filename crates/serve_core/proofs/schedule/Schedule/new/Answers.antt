use Rattle.std.proofs.Common.{ℕ, ◌≡◌, arith, length, map, replicate, None, sym, ◌∙◌, ap}
use Rattle.std.proofs.IntoIterSteps.{All-taken}
use Rattle.serve_core.specs.Schedule.{ready_deadlines}
use Rattle.serve_core.specs.Streams.{opened}
use Rattle.serve_core.proofs.Schedules.Shown.{none_ready}
use Rattle.serve_core.proofs.schedule.Schedule.new.Goals as goal

pub invariant_of-result : goal.invariant_of-result
invariant_of-result c =
    let specs = c.setup.inside.streams.items in
    let all : c.loop-spec.yielded ≡ specs =
    All-taken c.into_iter-spec-iterator.result c.loop-spec.yielded
    (c.next.new.self, (c.loop-spec.spec-iterator, c.loop-spec.yielded_by, c.in-None.ensures.steps))
    ∙ c.into_iter-spec-iterator.ensures.into_iter_gives.0 in
    let streams : c.loop-spec.streams.items ≡ map opened specs = c.loop-spec.invariant ∙ ap (map opened) all in
    let count : c.len-count.result ≡ length specs = omega (arith, c.len-count.ensures) in
    record {
      clock = omega arith;
      pool = c.in_ok-pool.ensures ∙ ap (λ (n : ℕ). replicate n None) count ∙ none_ready specs
          ∙ sym (ap ready_deadlines streams);
    }
