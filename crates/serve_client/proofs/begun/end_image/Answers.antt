use Rattle.std.proofs.Common.{Option, ap, inl, inr, refl, subst, sym}
use Rattle.y4m_stream.specs.Writer.{WriterState}
use Rattle.serve_core.specs.declared.collected.Collected.{Collected}
use Rattle.serve_client.specs.declared.stop.Stop.TheVariants.{Whole, Write}
use Rattle.serve_client.specs.Hands.{CountsImage, EndsImage}
use Rattle.serve_client.proofs.Finishing.{counted_well, ended_well}
use Rattle.serve_client.proofs.begun.end_image.Goals as goal

pub returns-in-Ok-clause-ended : goal.returns-in-Ok-clause-ended
returns-in-Ok-clause-ended g c = λ chain.
    subst (λ (image : Option Collected). EndsImage image chain Whole c.args.writer.now c.put_on.new.self) (sym c.in-Some.is)
    (λ before begun. ended_well c.in-Some.pair before c.put_on.new.self _ c.in-Ok.ensures.decided (c.in-Ok.ensures.more before begun.within))

pub returns-in-Ok-clause-counts : goal.returns-in-Ok-clause-counts
returns-in-Ok-clause-counts g c =
    subst (λ (image : Option Collected). CountsImage image Whole c.args.writer.now.frames c.put_on.new.self.frames) (sym c.in-Some.is)
    (inl (refl, counted_well c.in-Some.pair c.args.writer.now c.put_on.new.self _ c.in-Ok.ensures.decided c.in-Ok.ensures.counted))

pub returns-clause-counts : goal.returns-clause-counts
returns-clause-counts g c =
    subst (λ (image : Option Collected). CountsImage image (Write c.in-Err.fault) c.args.writer.now.frames c.put_on.new.self.frames)
    (sym c.in-Some.is) (inr (c.in-Err.fault, refl, ap (λ (w : WriterState). w.frames) c.in-Err.ensures.counted))

pub returns-clause-ended : goal.returns-clause-ended
returns-clause-ended g c = λ chain.
    subst (λ (image : Option Collected). EndsImage image chain (Write c.in-Err.fault) c.args.writer.now c.put_on.new.self)
    (sym c.in-Some.is) (λ before begun. inr (c.in-Err.fault, refl, c.in-Err.ensures.more before begun.within))
