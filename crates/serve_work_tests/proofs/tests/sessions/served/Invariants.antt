use Rattle.serve_core.specs.Schedule.{opened_schedule}
use Rattle.serve_work_tests.proofs.tests.sessions.served.Given as goal

abbrev pub ghosts-served_by-L-Ledger : goal.ghosts-served_by-L-Ledger
ghosts-served_by-L-Ledger g a = record { name = a.blank.name; parts = a.blank.parts }

abbrev pub ghosts-served_by-L-Epoch : goal.ghosts-served_by-L-Epoch
ghosts-served_by-L-Epoch g a = record { opening = opened_schedule a.setup }
