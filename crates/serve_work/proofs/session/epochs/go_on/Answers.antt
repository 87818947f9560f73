use Rattle.std.proofs.Common.{refl}
use Rattle.serve_work.proofs.Intervals.{on_err}
use Rattle.serve_work.proofs.session.epochs.go_on.Goals as goal

pub run_next-requires-clause-blank : goal.run_next-requires-clause-blank
run_next-requires-clause-blank g c κs within = record { name_is = refl; parts_are = refl; enough = c.new-blank.ensures; opens = refl }

pub loop-init : goal.loop-init
loop-init g c = record { between = λ b at. at; stops = λ allowed. allowed }

pub run_next-requires-clause-between : goal.run_next-requires-clause-between
run_next-requires-clause-between g c κs within =
    let b = c.requires.between.0 in
    (b, c.loop.invariant.between b c.requires.between.1)

pub loop-preserved : goal.loop-preserved
loop-preserved g c = record {
  between = λ b at. c.in_ok-interval.ensures.later.between b (c.loop.invariant.between b at);
  stops = λ allowed. c.in_ok-interval.ensures.later.stops (c.loop.invariant.stops allowed);
}

pub returns-in_err-interval-clause-told : goal.returns-in_err-interval-clause-told
returns-in_err-interval-clause-told g c =
    let b = c.requires.between.0 in
    let last = c.loop.invariant.between b c.requires.between.1 in
    on_err c.from_residual.result _ (rw c.in_err-interval.ensures.untold (last.0, last.1.told, last.1.at_end))
