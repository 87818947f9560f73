use Rattle.serve_hub.proofs.stream_seat.StreamSeat.calls.Goals as goal

pub returns : goal.returns
returns g c = rw (← c.self.view_is, ← c.self-inside.view_is) c.deref.ensures.value
