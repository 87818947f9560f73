use Rattle.std.proofs.Common.{◌≡◌, ◌<◌, length, arith, refl, sym, ap, subst, ◌∙◌}
use Rattle.std.proofs.lemmas.List.Sums.{prefix_len-le-length}
use Rattle.filters.specs.declared.op.Op.{Op}
use Rattle.filters.specs.ChainImage.{IsImage, value_of}
use Rattle.filters.specs.Ops.{is_table}
use Rattle.filters.specs.Front.{front_of}
use Rattle.filters.proofs.ChainImages.{image_more}
use Rattle.filters.proofs.Front.{front_ends, no_table, table_more}
use Rattle.filters.proofs.chain.front.apply_front.Goals as goal

pub loop-op-init : goal.loop-op-init
loop-op-init c = record { geometry = refl; line = refl; tables = omega arith; by_all = refl }

pub loop-op-preserved : goal.loop-op-preserved
loop-op-preserved c =
    let ops = c.args.chain.now.ops in
    let i = c.loop-op.op-index in
    let so_far = c.loop-op.invariant in
    let is = rw c.ops-op-items.ensures.value at c.in-Table.is in
    let within : i < length ops = rw c.ops-op-items.ensures.value at c.loop-op-test.true in
    let Made : Op → Type 0 = λ op. IsImage op (value_of c.loop-op.frame) (value_of c.apply_in_place.new.frame) in
    record {
      geometry = c.apply_in_place.ensures.geometry ∙ so_far.geometry;
      line = c.apply_in_place.ensures.line ∙ so_far.line;
      tables = table_more ops i _ so_far.tables within (ap is_table is);
      by_all = image_more ops _ _ _ i _ within so_far.by_all (subst Made (sym is) c.apply_in_place.ensures.image);
    }

pub returns-in_default-clause-image : goal.returns-in_default-clause-image
returns-in_default-clause-image c =
    let other = rw c.ops-op-items.ensures.value at (no_table _ c.in_default.not-Table) in
    rw (front_ends c.args.chain.now.ops c.loop-op.op-index _ c.loop-op.invariant.tables other)
    c.loop-op.invariant.by_all

pub returns-clause-image : goal.returns-clause-image
returns-clause-image c =
    let ops = c.args.chain.now.ops in
    let last = rw c.ops-op-items.ensures.value at c.loop-op-test.false in
    let all : front_of c.args.chain.now ≡ c.loop-op.op-index =
    omega (arith, last, c.loop-op.invariant.tables, prefix_len-le-length is_table ops) in
    rw all c.loop-op.invariant.by_all
