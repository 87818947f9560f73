use Rattle.std.proofs.Common.{◌+◌, ◌*◌, arith}
use Rattle.filters.specs.Blur.{clamped, side, pixel_of}
use Rattle.filters.proofs.BlurSums.{sum_below_most, sum_slides, term_within}
use Rattle.filters.proofs.blur.columns.next_columns.Goals as goal

pub move_row-requires-clause-room : goal.move_row-requires-clause-room
move_row-requires-clause-room c x h =
    let plane = c.args.plane.now in
    let at = c.requires.at x (omega arith) in
    let most =
    sum_below_most
    (λ i. pixel_of plane.samples.now plane.width (clamped plane.height c.args.plane.now.radius c.args.y i) x) 255
    (side c.args.plane.now.radius)
    (λ k p. plane.bytes (clamped plane.height c.args.plane.now.radius c.args.y k * plane.width + x)) in
    omega arith

pub move_row-requires-clause-no_underflow : goal.move_row-requires-clause-no_underflow
move_row-requires-clause-no_underflow c x h =
    let plane = c.args.plane.now in
    let at = c.requires.at x (omega arith) in
    let read = c.row_near-leaving.ensures.samples x (omega arith) in
    let within =
    term_within
    (λ i. pixel_of plane.samples.now plane.width (clamped plane.height c.args.plane.now.radius c.args.y i) x)
    (side c.args.plane.now.radius) 0 (omega arith) in
    omega arith

pub returns : goal.returns
returns c x h =
    let plane = c.args.plane.now in
    let at = c.requires.at x h in
    let moved = c.move_row.ensures x (omega arith) in
    let leaves = c.row_near-leaving.ensures.samples x h in
    let enters = c.row_near-entering.ensures.samples x h in
    let slides =
    sum_slides (λ v. pixel_of plane.samples.now plane.width v x) plane.height c.args.plane.now.radius c.args.y
    (side c.args.plane.now.radius) in
    omega arith
