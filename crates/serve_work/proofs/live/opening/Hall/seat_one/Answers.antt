use Rattle.serve_work.specs.Intervals.{HasNoCalls}
use Rattle.serve_work.proofs.Living.{all_pushed}
use Rattle.serve_work.proofs.live.opening.Hall.seat_one.Goals as goal

pub returns-in-Some-clause-idle : goal.returns-in-Some-clause-idle
returns-in-Some-clause-idle g c = rw c.seat.ensures.idle c.requires.idle

pub returns-in-None-clause-idle : goal.returns-in-None-clause-idle
returns-in-None-clause-idle g c =
    rw c.push_reserved.ensures.items (all_pushed HasNoCalls _ _ c.requires.idle c.requires.no_calls)
