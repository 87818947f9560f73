use Rattle.std.proofs.Common.{rules, ◌≡◌, length, take}
use Rattle.frame_view.specs.Frame.{line_of, samples_of}
use Rattle.std.proofs.lemmas.Result.{err_from_is_err_and}
use Rattle.y4m_header.specs.StreamText.{IsFrameOf}
use Rattle.y4m_stream.specs.Reader.{data_len_of, frame_text_of}
use Rattle.y4m_stream.proofs.Reading.{Answers-taken, IsFrameAhead-cut, IsFrameAhead-held}
use Rattle.y4m_stream.proofs.reader.StreamReader.read_frame.Goals as goal

pub returns-in_err-end-clause-answer : goal.returns-in_err-end-clause-answer
returns-in_err-end-clause-answer g c =
    let passed = err_from_is_err_and c.from_residual.result c.from_residual.ensures.1 in
    rw (passed.1, passed.2, ← c.self.view_is) (c.in_err-end.ensures.answer c.self.inside.header)

pub returns-in_default-clause-answer : goal.returns-in_default-clause-answer
returns-in_default-clause-answer g c = rw (← c.self.view_is) ((rw c.in_default.is at c.in_ok-end.ensures.answer) c.self.inside.header)

pub returns-clause-answer : goal.returns-clause-answer
returns-clause-answer g c =
    let header = c.self.inside.header in
    let found = rw c.in-Some.is at c.in_ok-end.ensures.answer in
    let line : line_of c.take_data.new.out ≡ take c.in-Some.end c.begin_frame.new.input.held = search rules in
    let len : length (samples_of c.take_data.new.out) ≡ data_len_of header = search rules in
    let is_frame : IsFrameOf (data_len_of header) (frame_text_of c.take_data.new.out) =
    record { is_line = rw line found.is_frame_line; whole = len } in
    let taken = c.in_ok-take_data.ensures in
    rw (← c.self.view_is) (Answers-taken header _ _ _ _ _ c.in-Some.end _ found is_frame taken.ok taken.few_held taken.failures)

pub returns-in_err-end-clause-ahead : goal.returns-in_err-end-clause-ahead
returns-in_err-end-clause-ahead g c =
    let passed = err_from_is_err_and c.from_residual.result c.from_residual.ensures.1 in
    let begun = c.begin_frame.ensures in
    rw (passed.1, ← c.self.view_is)
    (λ is_open. IsFrameAhead-held c.self.inside.input c.begin_frame.new.input _ begun.rest (begun.few_held is_open))

pub returns-in_err-set_line-clause-ahead : goal.returns-in_err-set_line-clause-ahead
returns-in_err-set_line-clause-ahead g c =
    let passed = err_from_is_err_and c.from_residual-in_err-set_line.result c.from_residual-in_err-set_line.ensures.1 in
    let begun = c.begin_frame.ensures in
    rw (passed.1, ← c.self.view_is)
    (λ is_open. IsFrameAhead-held c.self.inside.input c.begin_frame.new.input _ begun.rest (begun.few_held is_open))

pub returns-in_err-take_data-clause-ahead : goal.returns-in_err-take_data-clause-ahead
returns-in_err-take_data-clause-ahead g c =
    let passed = err_from_is_err_and c.from_residual-in_err-take_data.result c.from_residual-in_err-take_data.ensures.1 in
    let len : length (samples_of c.set_line.new.self) ≡ data_len_of c.self.inside.header = search rules in
    rw (passed.1, ← c.self.view_is)
    (λ is_open. IsFrameAhead-cut _ _ _ _ c.begin_frame.ensures.rest (rw len at c.in_err-take_data.ensures.given))
