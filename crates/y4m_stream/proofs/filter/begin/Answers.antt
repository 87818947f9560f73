use Rattle.std.proofs.Common.{refl}
use Rattle.y4m_stream.proofs.Filtered.{shown_line}
use Rattle.y4m_stream.proofs.filter.begin.Goals as goal

pub returns-in-Err-open-clause-fault : goal.returns-in-Err-open-clause-fault
returns-in-Err-open-clause-fault g c =
    let filter = c.in-Ok.ensures.ok in
    let header = c.args.header.now in
    let line = shown_line c.in-Ok.filter.images.chain header header c.shown_header.result.now c.in-Ok.filter.resized
    c.shown_header.ensures refl filter.shown in
    record {
      chain = c.in-Ok.filter.images.chain;
      asked = filter.asked;
      is_chain = filter.is_chain;
      cut = rw line at c.in-Err-open.ensures.cut;
    }
