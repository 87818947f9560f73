use Rattle.serve_core.specs.Schedule.{opened_schedule}
use Rattle.serve_hub_tests.proofs.tests.seats.equal_leases_are_settled_crosswise.Given as goal

abbrev pub ghosts-crosswise-L-Ledger : goal.ghosts-crosswise-L-Ledger
ghosts-crosswise-L-Ledger g a = record { name = a.blank.name; parts = a.blank.parts }

abbrev pub ghosts-crosswise-L-Epoch : goal.ghosts-crosswise-L-Epoch
ghosts-crosswise-L-Epoch g a = record { opening = opened_schedule a.setup }
