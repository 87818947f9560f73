use Rattle.serve_hub.proofs.book.Book.spec.Goals as goal

pub returns : goal.returns
returns c = rw (← c.self.view_is) c.spec.ensures
