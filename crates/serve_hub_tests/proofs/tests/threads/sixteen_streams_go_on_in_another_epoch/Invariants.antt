use Rattle.serve_core.specs.Schedule.{opened_schedule}
use Rattle.serve_hub_tests.proofs.tests.threads.sixteen_streams_go_on_in_another_epoch.Given as goal

abbrev pub ghosts-offered_all-L-Ledger : goal.ghosts-offered_all-L-Ledger
ghosts-offered_all-L-Ledger g a = record { name = a.blank.name; parts = a.blank.parts }

abbrev pub ghosts-offered_all-L-Epoch : goal.ghosts-offered_all-L-Epoch
ghosts-offered_all-L-Epoch g a = record { opening = opened_schedule a.setup }

abbrev pub ghosts-go_on-L-Ledger : goal.ghosts-go_on-L-Ledger
ghosts-go_on-L-Ledger g a = record { name = a.blank.name; parts = a.blank.parts }

abbrev pub ghosts-go_on-L-Epoch : goal.ghosts-go_on-L-Epoch
ghosts-go_on-L-Epoch g a = record { opening = a.ended.book.desk }
