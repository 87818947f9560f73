use Rattle.std.proofs.Common.{length, ◌<◌, arith, refl, ◌∙◌}
use Rattle.filters.specs.declared.op.Op.TheVariants.{HFlip}
use Rattle.filters.proofs.ChainImages.{image_more}
use Rattle.filters.proofs.chain.Chain.apply.Goals as goal

pub loop-i-init : goal.loop-i-init
loop-i-init c =
    let some = rw c.ops-count.ensures.value at c.ops-count.ensures.count in
    record {
      by_all = image_more c.args.self.now.ops _ _ _ 0 HFlip (omega (arith, some)) refl
          (c.in_ok-image.ensures.image HFlip);
      line = c.in_ok-image.ensures.line;
      format = c.in_ok-image.ensures.format;
    }

pub loop-i-preserved : goal.loop-i-preserved
loop-i-preserved c =
    let within : c.loop-i.i < length c.args.self.now.ops =
    rw c.ops-count.ensures.value at c.loop-i-test.true in
    record {
      by_all = image_more c.args.self.now.ops _ _ _ c.loop-i.i HFlip within c.loop-i.invariant.by_all
          (c.in_ok-image-2.ensures.image HFlip);
      line = c.in_ok-image-2.ensures.line ∙ c.loop-i.invariant.line;
      format = c.in_ok-image-2.ensures.format;
    }

pub image_by-requires-in-loop-i-clause-reaches : goal.image_by-requires-in-loop-i-clause-reaches
image_by-requires-in-loop-i-clause-reaches c = c.loop-i.invariant.format
