use Rattle.serve_hub.proofs.ended.Ended.left.Goals as goal

pub returns : goal.returns
returns c = rw (← c.self.view_is) c.left.ensures
