use Rattle.serve_report.proofs.host.Host.serve.Goals as goal

pub returns : goal.returns
returns g c = record {
  rows = c.in_ok-rows.rows.items;
  serves = c.in_ok-rows.ensures;
  all = rw c.deref-3.ensures.value at c.are_whole.ensures;
  wrote = rw c.deref-2.ensures.value at c.in_ok-write_report.ensures;
}
