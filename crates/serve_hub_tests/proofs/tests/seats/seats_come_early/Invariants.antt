use Rattle.serve_core.specs.Schedule.{opened_schedule}
use Rattle.serve_hub_tests.proofs.tests.seats.seats_come_early.Given as goal

abbrev pub ghosts-early-L-Ledger : goal.ghosts-early-L-Ledger
ghosts-early-L-Ledger g a = record { name = a.blank.name; parts = a.blank.parts }

abbrev pub ghosts-early-L-Epoch : goal.ghosts-early-L-Epoch
ghosts-early-L-Epoch g a = record { opening = opened_schedule a.setup }
