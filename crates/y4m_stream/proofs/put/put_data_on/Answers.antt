use Rattle.y4m_stream.proofs.PutsOn.{data_put}
use Rattle.y4m_stream.proofs.put.put_data_on.Goals as goal

pub returns-in-Done-clause-text : goal.returns-in-Done-clause-text
returns-in-Done-clause-text g c =
    rw c.image_ended.ensures.bytes
    (data_put _ _ c.args.line.now c.args.bytes.now c.args.from c.put_on-written.result c.put_on-written.ensures.text)

pub returns-in-More-clause-text : goal.returns-in-More-clause-text
returns-in-More-clause-text g c =
    data_put _ _ c.args.line.now c.args.bytes.now c.args.from c.put_on-written.result c.put_on-written.ensures.text
