use Rattle.serve_hub.proofs.ended.Ended.spec.Goals as goal

pub returns : goal.returns
returns c = rw (← c.self.view_is, ← c.desk.ensures.desk) c.stream_spec.ensures
