use Rattle.std.proofs.Common.{ℕ, arith, subst, ◌∷◌, ◌++◌}
use Rattle.y4m_stream.specs.Writer.{PutsOn}
use Rattle.y4m_stream.proofs.PutsOn.{both_put, line_put}
use Rattle.y4m_stream.proofs.put.put_frame_on.Goals as goal

pub returns-then-line-from-clause-text : goal.returns-then-line-from-clause-text
returns-then-line-from-clause-text g c =
    subst (λ (n : ℕ). PutsOn (g.W.Sink.contents c.args.writer.now) (g.W.Sink.contents c.put_data_on.new.writer)
    (c.args.line.now ++ 10 ∷ c.args.bytes.now) n c.put_data_on.result) (omega arith) c.put_data_on.ensures.text

pub returns-in-Done-clause-text : goal.returns-in-Done-clause-text
returns-in-Done-clause-text g c =
    both_put _ _ _ c.args.line.now c.args.bytes.now c.args.from _ c.put_line_on-put.result c.put_data_on-in-Done.result c.in-Done.is
    (omega arith) (omega arith) c.put_line_on-put.ensures.text c.put_data_on-in-Done.ensures.text

pub returns-in_default-clause-text : goal.returns-in_default-clause-text
returns-in_default-clause-text g c =
    line_put _ _ c.args.line.now c.args.bytes.now c.args.from c.put_line_on-put.result c.in_default.not-Done (omega arith)
    c.put_line_on-put.ensures.text
