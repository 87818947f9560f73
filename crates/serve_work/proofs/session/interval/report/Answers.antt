use Rattle.std.proofs.Common.{arith}
use Rattle.serve_work.proofs.SessionStops.{over_stops, stops_same}
use Rattle.serve_work.proofs.Telling.{as_many, few_told, served_told, streams_told}
use Rattle.serve_work.proofs.session.interval.report.Goals as goal

pub tell-requires-clause-none : goal.tell-requires-clause-none
tell-requires-clause-none g c = c.requires.between.2.untold

pub tell-requires-clause-room : goal.tell-requires-clause-room
tell-requires-clause-room g c =
    omega (arith, as_many _ _ c.args.interval c.requires.between.2, c.requires.between.2.places, c.args.interval.streams.ok.0)

pub charge-requires-clause-fits_u32 : goal.charge-requires-clause-fits_u32
charge-requires-clause-fits_u32 g c =
    omega (arith, few_told _ _ c.args.interval c.requires.between.2 c.tell.new.served.items c.tell.ensures, c.tell.new.served.ok.0)

pub charge-requires-clause-in_desk : goal.charge-requires-clause-in_desk
charge-requires-clause-in_desk g c n less =
    streams_told _ _ c.args.interval c.requires.between.2 c.tell.new.served.items c.tell.ensures n
    (omega (arith, less, c.tell.new.served.ok.0))

pub returns-clause-served : goal.returns-clause-served
returns-clause-served g c = λ b epochs at.
    served_told b epochs c.args.interval at c.tell.new.served.items c.charge.new.served.items c.tell.ensures
    c.charge.ensures.outcomes
    (λ k d less. c.charge.ensures.tells_charges k d (omega (arith, less, c.charge.new.served.ok.0)))

pub returns-clause-stops : goal.returns-clause-stops
returns-clause-stops g c =
    stops_same c.args.interval.streams.items c.tell.new.served.items c.charge.new.served.items c.charge.ensures.outcomes
    (over_stops c.args.interval.streams.items c.tell.new.served.items c.tell.ensures)
