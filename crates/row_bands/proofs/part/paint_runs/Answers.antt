use Rattle.std.proofs.Common.{ℕ, ◌≡◌, length, rules, arith}
use Rattle.row_bands.specs.HalvesInside.{GivesRows, part_len}
use Rattle.row_bands.proofs.PartRows.{parts_meet, same_len, upper_parts, lower_parts}
use Rattle.row_bands.proofs.part.paint_runs.Goals as goal

pub returns-clause-parts : goal.returns-clause-parts
returns-clause-parts g c =
    let gives =
    GivesRows (g.P.Painter.picture c.args.painter.now) (g.P.Painter.paint_gives c.args.painter.now) c.args.part.geometry in
    record {
      top = upper_parts gives c.args.part.from c.args.row c.args.part.geometry
          c.use_again.new.luma c.use_again-2.new.luma c.use_again.new.cb c.use_again-2.new.cb c.use_again.new.cr
          c.use_again-2.new.cr c.use_again.new.alpha c.use_again-2.new.alpha
          (search rules) (search rules) (search rules) (search rules) (search rules);
      bottom = lower_parts gives c.args.part.from c.args.row c.args.part.to c.args.part.geometry
          c.use_again.new.luma c.use_again-2.new.luma c.use_again.new.cb c.use_again-2.new.cb c.use_again.new.cr
          c.use_again-2.new.cr c.use_again.new.alpha c.use_again-2.new.alpha
          (search rules) (search rules) (search rules) (search rules) (search rules);
    }

pub split_at_mut-cb_top-requires : goal.split_at_mut-cb_top-requires
split_at_mut-cb_top-requires g c =
    let part = c.args.part in
    omega (
      arith,
      c.len-2.ensures,
      c.requires.lens.cb,
      same_len c.split.result.0.geometry part.geometry 1 _ _ part.from c.args.row c.split.ensures.top,
      parts_meet part.geometry 1 part.from c.args.row part.to c.requires.row.0 c.requires.row.1,
    )

pub split_at_mut-cr_top-requires : goal.split_at_mut-cr_top-requires
split_at_mut-cr_top-requires g c =
    let part = c.args.part in
    omega (
      arith,
      c.len-3.ensures,
      c.requires.lens.cr,
      same_len c.split.result.0.geometry part.geometry 2 _ _ part.from c.args.row c.split.ensures.top,
      parts_meet part.geometry 2 part.from c.args.row part.to c.requires.row.0 c.requires.row.1,
    )

pub join_mut-requires-after_bounds : goal.join_mut-requires-after_bounds
join_mut-requires-after_bounds g c κs within =
    let part = c.args.part in
    let at = part.geometry in
    let low = c.split.result.1 in
    let meet = λ (p : ℕ). parts_meet at p part.from c.args.row part.to c.requires.row.0 c.requires.row.1 in
    let top = λ (p : ℕ). same_len c.split.result.0.geometry at p _ _ part.from c.args.row c.split.ensures.top in
    let bottom = λ (p : ℕ). same_len low.geometry at p _ _ c.args.row part.to c.split.ensures.bottom in
    let luma : length c.split_at_mut-luma_top.result.1.now ≡ part_len low.geometry 0 low.from low.to =
    omega (arith, c.split_at_mut-luma_top.ensures.back_len, c.len.ensures, c.requires.lens.luma, meet 0, top 0, bottom 0) in
    let cb : length c.split_at_mut-cb_top.result.1.now ≡ part_len low.geometry 1 low.from low.to =
    omega (arith, c.split_at_mut-cb_top.ensures.back_len, c.len-2.ensures, c.requires.lens.cb, meet 1, top 1, bottom 1) in
    let cr : length c.split_at_mut-cr_top.result.1.now ≡ part_len low.geometry 2 low.from low.to =
    omega (arith, c.split_at_mut-cr_top.ensures.back_len, c.len-3.ensures, c.requires.lens.cr, meet 2, top 2, bottom 2) in
    let alpha : length c.split_at_mut-alpha_top.result.1.now ≡ part_len low.geometry 3 low.from low.to =
    omega (arith, c.split_at_mut-alpha_top.ensures.back_len, c.len-4.ensures, c.requires.lens.alpha, meet 3, top 3, bottom 3) in
    search rules
