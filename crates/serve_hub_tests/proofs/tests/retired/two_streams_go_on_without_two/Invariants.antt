use Rattle.serve_core.specs.Schedule.{opened_schedule}
use Rattle.serve_hub_tests.proofs.tests.retired.two_streams_go_on_without_two.Given as goal

abbrev pub ghosts-first_epoch-L-Ledger : goal.ghosts-first_epoch-L-Ledger
ghosts-first_epoch-L-Ledger g a = record { name = a.blank.name; parts = a.blank.parts }

abbrev pub ghosts-first_epoch-L-Epoch : goal.ghosts-first_epoch-L-Epoch
ghosts-first_epoch-L-Epoch g a = record { opening = opened_schedule a.setup }

abbrev pub ghosts-next_epoch-L-Ledger : goal.ghosts-next_epoch-L-Ledger
ghosts-next_epoch-L-Ledger g a = record { name = a.blank.name; parts = a.blank.parts }

abbrev pub ghosts-next_epoch-L-Epoch : goal.ghosts-next_epoch-L-Epoch
ghosts-next_epoch-L-Epoch g a = record { opening = a.ended.book.desk }
