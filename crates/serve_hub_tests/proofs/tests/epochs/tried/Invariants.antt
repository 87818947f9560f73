use Rattle.serve_hub_tests.proofs.tests.epochs.tried.Given as goal

abbrev pub ghosts-next_or_last-L-Ledger : goal.ghosts-next_or_last-L-Ledger
ghosts-next_or_last-L-Ledger g a = record { name = a.blank.name; parts = a.blank.parts }

abbrev pub ghosts-next_or_last-L-Epoch : goal.ghosts-next_or_last-L-Epoch
ghosts-next_or_last-L-Epoch g a = record { opening = a.ended.book.desk }
