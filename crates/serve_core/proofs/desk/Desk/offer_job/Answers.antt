use Rattle.std.proofs.Common.{rules}
use Rattle.serve_core.proofs.desk.Desk.offer_job.Goals as goal

pub accept-requires-clause-stream : goal.accept-requires-clause-stream
accept-requires-clause-stream c = search rules

pub returns-in-Some-clause-refused : goal.returns-in-Some-clause-refused
returns-in-Some-clause-refused c = search rules

pub returns-in-None-clause-answer : goal.returns-in-None-clause-answer
returns-in-None-clause-answer c = search rules
