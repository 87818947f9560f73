use Rattle.serve_hub.proofs.ended.Ended.counts.Goals as goal

pub returns : goal.returns
returns c = rw (← c.self.view_is, ← c.desk.ensures.desk) c.counts.ensures
