use Rattle.serve_report.specs.Openings.{openings_of}
use Rattle.serve_report.proofs.host.Host.serve_files.Goals as goal

pub returns : goal.returns
returns g c = record {
  openings = openings_of c.in_ok-tried.tried.items;
  opened = c.in_ok-tried.ensures;
  tells = c.in_ok-rows.ensures;
}
