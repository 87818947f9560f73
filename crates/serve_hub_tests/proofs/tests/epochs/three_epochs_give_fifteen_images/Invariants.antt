use Rattle.serve_hub_tests.proofs.tests.epochs.three_epochs_give_fifteen_images.Given as goal

abbrev pub ghosts-too_short-L-Ledger : goal.ghosts-too_short-L-Ledger
ghosts-too_short-L-Ledger g a = record { name = a.blank.name; parts = a.blank.parts }

abbrev pub ghosts-too_short-L-Epoch : goal.ghosts-too_short-L-Epoch
ghosts-too_short-L-Epoch g a = record { opening = a.ended.book.desk }
