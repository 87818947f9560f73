use Rattle.serve_report.proofs.Openings.{opened_of}
use Rattle.serve_report.proofs.control.opener.Opener+F+V+T+Shared+F+V+T+O+E.open_input.Goals as goal

pub returns-in-Ok-open_reader : goal.returns-in-Ok-open_reader
returns-in-Ok-open_reader g c =
    (_, c.in-Ok.ensures.file, opened_of _ _ _ _ c.inflow_by-inflow.ensures.bytes c.in-Ok-open_reader.ensures)
