use Rattle.serve_hub.proofs.stream_seat.StreamSeat.offer_refusal.Goals as goal

pub returns-in-Some-clause-refused : goal.returns-in-Some-clause-refused
returns-in-Some-clause-refused g c = c.in-Some.ensures.offer c.args.at c.args.frame.now.geometry
