use Rattle.serve_work_tests.proofs.tests.pauses.steps.resume.Given as goal

abbrev pub ghosts-next_epoch-L-Ledger : goal.ghosts-next_epoch-L-Ledger
ghosts-next_epoch-L-Ledger g a = record { name = a.blank.name; parts = a.blank.parts }

abbrev pub ghosts-next_epoch-L-Epoch : goal.ghosts-next_epoch-L-Epoch
ghosts-next_epoch-L-Epoch g a = record { opening = a.paused.0.book.desk }
