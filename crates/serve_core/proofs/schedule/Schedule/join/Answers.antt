use Rattle.std.proofs.Common.{◌≡◌, None, List, [], ◌∷◌, ◌++◌, length, ◌∙◌, ap, arith, sym}
use Rattle.serve_core.specs.Schedule.{ScheduleValue, ready_deadlines, with_stream}
use Rattle.serve_core.specs.ScheduleInside.{schedule}
use Rattle.serve_core.specs.States.{ready_deadline}
use Rattle.serve_core.specs.Streams.{KeptStream}
use Rattle.serve_core.proofs.Schedules.Holdings.{shown_more}
use Rattle.serve_core.proofs.schedule.Schedule.join.Goals as goal

pub invariant_of-self : goal.invariant_of-self
invariant_of-self c =
    let stream = c.into_stream.result in
    let idle : ready_deadline stream.state ≡ None =
    ap (λ (stream : KeptStream). ready_deadline stream.state) c.into_stream.ensures in
    record {
      clock = c.self.invariant.clock;
      pool = c.grow.ensures ∙ shown_more c.self.inside.pool c.self.inside.streams.items stream c.self.invariant.pool idle
          ∙ ap ready_deadlines (sym c.in-Ok.ensures.items);
    }

pub returns-in-Ok-clause-ok : goal.returns-in-Ok-clause-ok
returns-in-Ok-clause-ok c =
    let old = c.self.inside.streams.items in
    let more = c.in-Ok.ensures.items ∙ ap (λ (stream : KeptStream). old ++ stream ∷ []) c.into_stream.ensures in (
      omega (arith, c.len-number.ensures, ap (λ (x : ScheduleValue). length x.streams) c.self.view_is),
      ap (λ (streams : List KeptStream). record (schedule c.self.inside) { streams = streams }) more
          ∙ ap (with_stream c.args.newcomer) c.self.view_is,
    )
