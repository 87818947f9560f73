use Rattle.std.proofs.Common.{◌∙◌}
use Rattle.serve_work.proofs.live.epochs.next_epoch.Goals as goal

pub open_next-requires-clause-guests : goal.open_next-requires-clause-guests
open_next-requires-clause-guests g c = let at = c.requires.guests in (at.0, at.1, at.3)

pub returns-in-Err-clause-guests : goal.returns-in-Err-clause-guests
returns-in-Err-clause-guests g c =
    let at = c.requires.guests in (at.0, at.1, at.2, rw (c.in-Err.ensures.returns_interval.0, c.in-Err.ensures.returns_interval.1) at.3)

pub epoch-requires-clause-seated : goal.epoch-requires-clause-seated
epoch-requires-clause-seated g c κs within =
    let at = c.requires.guests in (at.0, at.1, at.2, c.in-Ok.ensures.seated at.0 at.1 at.3)

pub epoch-requires-clause-limit : goal.epoch-requires-clause-limit
epoch-requires-clause-limit g c κs within = c.in-Ok.ensures.limit ∙ c.requires.guests.3.of_limit
