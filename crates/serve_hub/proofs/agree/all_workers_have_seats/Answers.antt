use Rattle.std.proofs.Common.{ℕ, ◌≡◌, refl}
use Rattle.std.specs.List.{Any}
use Rattle.serve_hub.specs.Seats.{WorkSeatValue}
use Rattle.serve_hub.proofs.Seating.{one_more_number}
use Rattle.serve_hub.proofs.agree.all_workers_have_seats.Goals as goal

pub loop-number-preserved : goal.loop-number-preserved
loop-number-preserved g c =
    one_more_number (λ (n : ℕ). Any (λ (s : WorkSeatValue). s.number ≡ n) c.args.seats.now) c.loop-number.number
    c.loop-number.invariant (c.if-not-has_worker.ensures.0 refl)
