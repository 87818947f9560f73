use Rattle.serve_hub.proofs.ended.Ended.journal.Goals as goal

pub returns-clause-past : goal.returns-clause-past
returns-clause-past c = rw (← c.self.view_is) c.journal.ensures.past

pub returns-clause-book : goal.returns-clause-book
returns-clause-book c = rw (← c.self.view_is) c.journal.ensures.book
