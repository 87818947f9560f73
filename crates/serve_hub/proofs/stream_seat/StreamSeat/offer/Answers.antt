use Rattle.std.proofs.Common.{refl}
use Rattle.std.specs.Arc.{arc_value}
use Rattle.serve_hub.proofs.stream_seat.StreamSeat.offer.Goals as goal

pub returns-in-Some-clause-refused : goal.returns-in-Some-clause-refused
returns-in-Some-clause-refused g c = (refl, refl, c.in-Some.ensures.offer c.args.at (arc_value c.args.entrant.frame).geometry)
