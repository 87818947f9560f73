use Rattle.std.proofs.Common.{ap}
use Rattle.serve_hub.specs.Seats.{WorkSeatValue}
use Rattle.serve_hub.proofs.work_seat.WorkSeat.worker.Goals as goal

pub returns : goal.returns
returns g c = ap (λ (s : WorkSeatValue). s.number) c.self.view_is
