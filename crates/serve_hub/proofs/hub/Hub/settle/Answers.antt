use Rattle.serve_hub.proofs.hub.Hub.settle.Goals as goal

pub returns-clause-settled : goal.returns-clause-settled
returns-clause-settled g c = c.settle-answer.ensures.settled

pub returns-clause-outcome : goal.returns-clause-outcome
returns-clause-outcome g c = c.settle-answer.ensures.outcome

pub returns-clause-refused : goal.returns-clause-refused
returns-clause-refused g c = c.settle-answer.ensures.refused
