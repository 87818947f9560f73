use Rattle.serve_hub.proofs.hub.Hub.try_lease.Goals as goal

pub returns-clause-given : goal.returns-clause-given
returns-clause-given g c = c.lease-answer.ensures.given

pub returns-clause-unused : goal.returns-clause-unused
returns-clause-unused g c = c.lease-answer.ensures.unused

pub returns-clause-refused : goal.returns-clause-refused
returns-clause-refused g c = c.lease-answer.ensures.refused
