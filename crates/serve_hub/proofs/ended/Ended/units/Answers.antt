use Rattle.serve_hub.proofs.ended.Ended.units.Goals as goal

pub returns-clause-value : goal.returns-clause-value
returns-clause-value c = rw (← c.self.view_is) c.units.ensures.value

pub returns-clause-units : goal.returns-clause-units
returns-clause-units c = rw (← c.self.view_is) c.units.ensures.units
