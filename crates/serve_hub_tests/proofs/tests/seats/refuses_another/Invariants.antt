use Rattle.serve_core.specs.Schedule.{opened_schedule}
use Rattle.serve_hub_tests.proofs.tests.seats.refuses_another.Given as goal

abbrev pub ghosts-lease_of_another-L-Ledger : goal.ghosts-lease_of_another-L-Ledger
ghosts-lease_of_another-L-Ledger g a = record { name = a.blank.name; parts = a.blank.parts }

abbrev pub ghosts-lease_of_another-L-Epoch : goal.ghosts-lease_of_another-L-Epoch
ghosts-lease_of_another-L-Epoch g a = record { opening = opened_schedule a.setup }
