use Rattle.serve_report.proofs.Openings.{opened_of}
use Rattle.serve_report.proofs.serve.opening.open_reader.Goals as goal

pub returns-clause-reader : goal.returns-clause-reader
returns-clause-reader g c =
    let source = c.new-inner_source.ensures in
    let opened = rw (c.new-source.ensures.source, source.inflow, source.failures) at c.in_ok-reader.ensures.1 in
    opened_of _ _ _ _ c.inflow_of.ensures.bytes opened
