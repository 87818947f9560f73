use Rattle.std.proofs.Common.{sym, ◌∙◌, subst, ◌<◌, rules}
use Rattle.serve_core.specs.Setup.{steps}
use Rattle.serve_core.specs.Streams.{KeptStream}
use Rattle.serve_core.proofs.Schedules.Jobs.{lent_left}
use Rattle.serve_core.proofs.stream.Stream.step.Goals as goal

pub step_job-requires-clause-left : goal.step_job-requires-clause-left
step_job-requires-clause-left c =
    let left = subst (λ (l : KeptStream). l.state.done < steps l.state.spec) (sym c.self.view_is) c.requires.left in
    lent_left c.self.inside.queue.is_out c.self.inside.spec c.self.inside.done c.self.inside.leased c.in-Some.job
    c.self.invariant.leased (sym c.take.ensures.value ∙ c.in-Some.is) left

pub charge-requires : goal.charge-requires
charge-requires c = search rules fits 200

pub returns-clause-worked : goal.returns-clause-worked
returns-clause-worked c = search rules fits 200
