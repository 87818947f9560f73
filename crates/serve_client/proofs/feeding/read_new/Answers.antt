use Rattle.std.proofs.Common.{Ok, None}
use Rattle.y4m_stream.specs.Reader.{Answers}
use Rattle.serve_client.proofs.feeding.read_new.Goals as goal

pub returns-in-Ok-None-clause-end : goal.returns-in-Ok-None-clause-end
returns-in-Ok-None-clause-end g c = λ _.
    let met : Answers c.args.reader.now c.next_frame.new.self (Ok None) = rw c.in-Ok-None.field-0-is at c.in-Ok-None.ensures.answer in
    met.is_open c.requires.open
