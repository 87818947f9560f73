use Rattle.serve_hub.proofs.ended.Ended.bands.Goals as goal

pub returns : goal.returns
returns c = rw (← c.self.view_is) c.bands.ensures
