use Rattle.serve_hub.proofs.Noting.{moment_noted, refusal_noted}
use Rattle.serve_hub.proofs.hub.Hub.enter.Goals as goal

pub returns-in-Err-clause-refused : goal.returns-in-Err-clause-refused
returns-in-Err-clause-refused g c = refusal_noted _ _ _ _ _ _ _ _ c.in-Err.ensures.refused c.note.ensures

pub returns-in-Err-clause-other_moment : goal.returns-in-Err-clause-other_moment
returns-in-Err-clause-other_moment g c = moment_noted _ _ _ _ _ _ _ c.in-Err.ensures.other_moment c.note.ensures
