use Rattle.std.proofs.Common.{arith, refl}
use Rattle.row_bands.proofs.PartRows.{part_end, part_inside, small_plane}
use Rattle.row_bands.proofs.part.Part.samples.Goals as goal

pub overflow_mul-result : goal.overflow_mul-result
overflow_mul-result c =
    let part = c.args.self in
    let g = part.geometry in
    let p = c.args.p in
    rw (c.rows_above-from.ensures, c.requires.columns)
    (omega (arith, part_end g p part.from part.to part.ordered, part_inside g p part.to part.inside, small_plane g p))

pub overflow_mul-result-2 : goal.overflow_mul-result-2
overflow_mul-result-2 c =
    let part = c.args.self in
    let g = part.geometry in
    let p = c.args.p in
    rw (c.rows_above-to.ensures, c.requires.columns) (omega (arith, part_inside g p part.to part.inside, small_plane g p))

pub returns : goal.returns
returns c =
    let part = c.args.self in
    let at = part.geometry in
    let p = c.args.p in
    rw (c.rows_above-from.ensures, c.rows_above-to.ensures, c.requires.columns)
    (record {
      start = refl;
      end = refl;
      ordered = omega (arith, part_end at p part.from part.to part.ordered);
      len = omega (arith, part_end at p part.from part.to part.ordered);
      inside = part_inside at p part.to part.inside;
    })
