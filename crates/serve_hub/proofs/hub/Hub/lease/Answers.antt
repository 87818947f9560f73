use Rattle.std.proofs.Common.{rules}
use Rattle.serve_hub.proofs.hub.Hub.lease.Goals as goal

pub returns-in-Some-end_of_work-clause-waited : goal.returns-in-Some-end_of_work-clause-waited
returns-in-Some-end_of_work-clause-waited c = search rules
