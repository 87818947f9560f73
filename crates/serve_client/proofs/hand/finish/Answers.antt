use Rattle.std.proofs.Common.{◌∙◌, Bool, Ok, Result, ap, refl, subst}
use Rattle.y4m_stream.specs.declared.fault.WriteFault.{WriteFault}
use Rattle.y4m_stream.specs.Reader.{frame_text_of}
use Rattle.y4m_stream.specs.Writer.{PutsMore}
use Rattle.serve_client.proofs.Moving.{Cuts-finish, Moves-finish, Moves-none}
use Rattle.serve_client.proofs.hand.finish.Goals as goal

pub returns-in-Ok-true-clause-answer : goal.returns-in-Ok-true-clause-answer
returns-in-Ok-true-clause-answer g c = λ seat before begun.
    Moves-finish c.args.pair seat before c.args.writer.now c.write_on.new.writer begun
    (subst (λ (r : Result Bool WriteFault). PutsMore before c.write_on.new.writer (frame_text_of c.args.pair.image) r)
    (c.in-Ok-true.is ∙ ap Ok c.in-Ok-true.field-0-test) (c.write_on.ensures.more before begun.within))

pub returns-in-Ok-false-clause-answer : goal.returns-in-Ok-false-clause-answer
returns-in-Ok-false-clause-answer g c = λ seat before begun. (
  before,
  record {
    within = subst (λ (r : Result Bool WriteFault). PutsMore before c.write_on.new.writer (frame_text_of c.args.pair.image) r)
        (c.in-Ok-false.is ∙ ap Ok c.in-Ok-false.field-0-test) (c.write_on.ensures.more before begun.within);
    made = begun.made;
  },
  Moves-none _ _ _ _ refl refl,
)

pub returns-in-Err-clause-answer : goal.returns-in-Err-clause-answer
returns-in-Err-clause-answer g c = λ seat before begun.
    Cuts-finish c.args.pair seat before c.args.writer.now c.write_on.new.writer c.in-Err.fault begun
    (c.in-Err.ensures.more before begun.within)
