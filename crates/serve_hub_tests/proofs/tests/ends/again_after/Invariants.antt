use Rattle.serve_hub_tests.proofs.tests.ends.again_after.Given as goal

abbrev pub ghosts-next_after-L-Ledger : goal.ghosts-next_after-L-Ledger
ghosts-next_after-L-Ledger g a = record { name = a.blank.name; parts = a.blank.parts }

abbrev pub ghosts-next_after-L-Epoch : goal.ghosts-next_after-L-Epoch
ghosts-next_after-L-Epoch g a = record { opening = a.ended.book.desk }
