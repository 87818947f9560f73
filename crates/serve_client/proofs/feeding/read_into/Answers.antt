use Rattle.std.proofs.Common.{Ok, None}
use Rattle.y4m_stream.specs.Reader.{Answers}
use Rattle.serve_client.proofs.feeding.read_into.Goals as goal

pub returns-in-Ok-false-clause-end : goal.returns-in-Ok-false-clause-end
returns-in-Ok-false-clause-end g c = λ _.
    let met : Answers c.args.reader.now c.read_frame.new.self (Ok None) = rw c.in-Ok-false.field-0-test at c.in-Ok-false.ensures.answer in
    met.is_open c.requires.open
