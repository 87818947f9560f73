use Rattle.std.proofs.Common.{◌≡◌, arith, vec_len}
use Rattle.frame_view.specs.Places.{frame_len}
use Rattle.serve_script.proofs.Arrivals.{half_of_digits}
use Rattle.serve_script.proofs.session.arrival.frame_of.Goals as goal

pub returns-clause-fault : goal.returns-clause-fault
returns-clause-fault c =
    let samples = c.in_ok-samples.samples in
    let half = half_of_digits c.args.hex.now samples.items c.in_ok-samples.ensures in
    let filled = c.in-Some.ensures.filled in
    let full : vec_len samples ≡ frame_len c.in-Some.geometry = omega (arith, half, filled, samples.ok) in
    let made = c.new.ensures.accepted.1 full in
    let failed = rw c.in-Err.is at made in
    absurd (cc)
