use Rattle.serve_core.specs.Schedule.{opened_schedule}
use Rattle.serve_hub_tests.proofs.tests.seats.other_across.Given as goal

abbrev pub ghosts-across-M-Ledger : goal.ghosts-across-M-Ledger
ghosts-across-M-Ledger g a = record { name = a.blank.name; parts = a.blank.parts }

abbrev pub ghosts-across-M-Epoch : goal.ghosts-across-M-Epoch
ghosts-across-M-Epoch g a = record { opening = opened_schedule a.setup }
