use Rattle.std.proofs.Common.{◌≤◌, List, length, ◌∙◌, sym, ap, subst, arith}
use Rattle.serve_core.specs.Retired.{retired_schedule, staying}
use Rattle.serve_core.specs.Schedule.{ScheduleValue, ready_deadlines}
use Rattle.serve_core.specs.ScheduleInside.{schedule}
use Rattle.serve_core.specs.Streams.{KeptStream}
use Rattle.serve_core.proofs.schedule.Schedule.retire.Goals as goal

pub reset-requires : goal.reset-requires
reset-requires c =
    let some : 1 ≤ length (staying (schedule c.self.inside)) =
    subst (λ (x : ScheduleValue). 1 ≤ length (staying x)) (sym c.self.view_is) c.requires.some_stay in
    let few = ap (λ (x : ScheduleValue). length x.streams) c.self.view_is in
    let all = ap length c.drop_released.ensures.streams in (
      omega (arith, some, all, c.drop_released.new.streams.ok.0, c.len.ensures),
      omega (
        arith,
        few,
        c.requires.few_streams,
        c.drop_released.ensures.fewer,
        c.len.ensures,
        c.self.inside.streams.ok.0,
      ),
    )

pub invariant_of-self : goal.invariant_of-self
invariant_of-self c = record {
  clock = c.self.invariant.clock;
  pool = c.show_all.ensures ∙ ap ready_deadlines c.deref.ensures.value;
}

pub returns : goal.returns
returns c =
    ap (λ (streams : List KeptStream). record (schedule c.self.inside) { streams = streams })
    c.drop_released.ensures.streams
    ∙ ap retired_schedule c.self.view_is
