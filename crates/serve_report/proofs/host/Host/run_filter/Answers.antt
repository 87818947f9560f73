use Rattle.std.proofs.Common.{arith, inr}
use Rattle.serve_report.proofs.Filtered.{filters_all, filters_to}
use Rattle.serve_report.proofs.host.Host.run_filter.Goals as goal

pub returns-clause-well : goal.returns-clause-well
returns-clause-well g c = λ well.
    filters_all _ _ _ _ _ _ _ c.in-Ok.ensures c.filter_into-filtered.ensures (c.status_of.ensures.well.0 well)

pub returns-clause-fault : goal.returns-clause-fault
returns-clause-fault g c = λ fault. inr
    (filters_to _ _ _ _ _ _ _ c.in-Ok.ensures c.filter_into-filtered.ensures
    (λ ok. absurd (omega (arith, fault, c.status_of.ensures.well.1 ok))))
