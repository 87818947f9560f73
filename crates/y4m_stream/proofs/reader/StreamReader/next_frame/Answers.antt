use Rattle.std.proofs.Common.{rules}
use Rattle.std.proofs.lemmas.Result.{err_from_is_err_and}
use Rattle.y4m_header.specs.StreamText.{IsFrameOf}
use Rattle.y4m_stream.specs.Reader.{data_len_of, frame_text_of}
use Rattle.y4m_stream.proofs.Reading.{Answers-taken}
use Rattle.y4m_stream.proofs.reader.StreamReader.next_frame.Goals as goal

pub returns-in_err-end-clause-answer : goal.returns-in_err-end-clause-answer
returns-in_err-end-clause-answer g c =
    let passed = err_from_is_err_and c.from_residual.result c.from_residual.ensures.1 in
    rw (passed.1, passed.2, ← c.self.view_is) (c.in_err-end.ensures.answer c.self.inside.header)

pub returns-in_default-clause-answer : goal.returns-in_default-clause-answer
returns-in_default-clause-answer g c = rw (← c.self.view_is) ((rw c.in_default.is at c.in_ok-end.ensures.answer) c.self.inside.header)

pub returns-clause-answer : goal.returns-clause-answer
returns-clause-answer g c =
    let header = c.self.inside.header in
    let found = rw c.in-Some.is at c.in_ok-end.ensures.answer in
    let is_line = found.is_frame_line in
    let is_frame : IsFrameOf (data_len_of header) (frame_text_of c.take_data.new.out) = search rules in
    let taken = c.in_ok-take_data.ensures in
    rw (← c.self.view_is) (Answers-taken header _ _ _ _ _ c.in-Some.end _ found is_frame taken.ok taken.few_held taken.failures)
