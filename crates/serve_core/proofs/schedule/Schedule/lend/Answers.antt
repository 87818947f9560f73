use Rattle.std.proofs.Common.{refl, ◌∙◌}
use Rattle.edf_pool.specs.Earliest.{IsEarliest}
use Rattle.serve_core.specs.Schedule.{ready_deadlines}
use Rattle.serve_core.proofs.Items.Lists.{slice_get_here}
use Rattle.serve_core.proofs.Schedules.Shown.{earliest_within, shown_again}
use Rattle.serve_core.proofs.schedule.Schedule.lend.Goals as goal

pub invariant_of-self : goal.invariant_of-self
invariant_of-self c = record {
  clock = c.self.invariant.clock;
  pool = c.show.ensures ∙ shown_again c.self.inside.pool c.self.inside.streams.items c.args.s c.lend-number.new.self
      c.self.invariant.pool;
}

pub returns : goal.returns
returns c =
    let streams = c.self.inside.streams.items in
    let first : IsEarliest (ready_deadlines streams) c.args.s = rw (← c.self.view_is) at c.requires.earliest in
    let here = slice_get_here streams c.args.s c.index_mut-stream.result.now (earliest_within streams c.args.s first)
    c.index_mut-stream.ensures.value in
    rw (← c.self.view_is) (record {
      earliest = first;
      stream_before = c.index_mut-stream.result.now;
      stream_after = c.lend-number.new.self;
      here = here;
      number = c.lend-number.ensures.number;
      grant = c.lend-number.ensures.grant;
      none_used = refl;
      lent = record {
        stream = c.lend-number.ensures.lent;
        job = c.lend-number.ensures.job;
        started = c.lend-number.ensures.started;
      };
      schedule = refl;
    })
