use Rattle.std.proofs.Common.{◌∙◌}
use Rattle.serve_work.proofs.SessionTurns.{later_mismatch}
use Rattle.serve_work.proofs.Told.{behind_latest}
use Rattle.serve_work.proofs.session.epochs.run_next.Goals as goal

pub epoch-requires-clause-can_begin : goal.epoch-requires-clause-can_begin
epoch-requires-clause-can_begin g c κs within =
    let b = c.requires.between.0 in
    let es = c.requires.between.1.0 in
    let at = c.requires.between.1.2 in (
      b,
      es,
      record {
        told = c.requires.between.1.1;
        later = λ first. behind_latest b es c.args.interval at;
        can = c.in-Ok.ensures.can_begin b es at;
      },
    )

pub returns-in-Ok-epoch-clause-later : goal.returns-in-Ok-epoch-clause-later
returns-in-Ok-epoch-clause-later g c = record {
  between = λ b at. c.in-Ok-epoch.ensures.later.between b at.0
      (record {
        told = at.1;
        later = λ first. behind_latest b at.0 c.args.interval at.2;
        can = c.in-Ok.ensures.can_begin b at.0 at.2;
      });
  stops = λ allowed. c.in-Ok-epoch.ensures.later.stops (rw c.in-Ok.ensures.streams allowed);
}

pub returns-in-Err-clause-later : goal.returns-in-Err-clause-later
returns-in-Err-clause-later g c = record {
  between = λ b at. (at.0, at.1, c.in-Err.ensures.still_between b at.0 at.2);
  stops = λ allowed. rw c.in-Err.ensures.same allowed;
}

pub returns-in-Err-epoch-clause-fault : goal.returns-in-Err-epoch-clause-fault
returns-in-Err-epoch-clause-fault g c =
    c.fault.ensures ∙ later_mismatch _
    c.in-Err-epoch.unended c.in-Err-epoch.ensures.unended
