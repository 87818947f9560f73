use Rattle.std.proofs.Common.{arith}
use Rattle.row_bands.proofs.PartRows.{part_end, part_inside, small_plane}
use Rattle.row_bands.proofs.part.Part.len.Goals as goal

pub overflow_mul-result : goal.overflow_mul-result
overflow_mul-result c =
    let part = c.args.self in
    let g = part.geometry in
    let p = c.args.p in
    rw (c.rows_above-from.ensures, c.rows_above-to.ensures, c.requires.columns)
    (omega (arith, part_end g p part.from part.to part.ordered, part_inside g p part.to part.inside, small_plane g p))
