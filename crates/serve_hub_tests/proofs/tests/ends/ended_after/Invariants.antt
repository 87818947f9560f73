use Rattle.serve_core.specs.Schedule.{opened_schedule}
use Rattle.serve_hub_tests.proofs.tests.ends.ended_after.Given as goal

abbrev pub ghosts-first_after-L-Ledger : goal.ghosts-first_after-L-Ledger
ghosts-first_after-L-Ledger g a = record { name = a.blank.name; parts = a.blank.parts }

abbrev pub ghosts-first_after-L-Epoch : goal.ghosts-first_after-L-Epoch
ghosts-first_after-L-Epoch g a = record { opening = opened_schedule a.setup }
