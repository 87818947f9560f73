-- What a schedule keeps, and what it stands for.
use Rattle.std.specs.Prelude.{◌≡◌, ◌≤◌}
use Rattle.cbs_account.specs.declared.limits.TheConstants.{LAST_MOMENT}
use Rattle.serve_core.specs.declared.schedule.Schedule.TheInside.{Inside}
use Rattle.serve_core.specs.Schedule.{ScheduleValue, ready_deadlines}

abbrev pub schedule : Inside → ScheduleValue
schedule a = record {
  clock = a.clock;
  quantum = a.quantum;
  streams = a.streams.items;
  workers = a.workers.items;
}

pub record IsSchedule (a : Inside) : Type 0 where
  pub clock : a.clock ≤ LAST_MOMENT
  -- the pool shows the streams that are ready, with their deadlines
  pub pool : a.pool ≡ ready_deadlines a.streams.items
