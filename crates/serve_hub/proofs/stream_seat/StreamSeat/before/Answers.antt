use Rattle.serve_hub.proofs.stream_seat.StreamSeat.before.Goals as goal

pub returns : goal.returns
returns g c = rw (← c.self.view_is, ← c.self-inside.view_is)
