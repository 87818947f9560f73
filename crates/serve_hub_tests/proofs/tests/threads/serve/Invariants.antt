use Rattle.serve_core.specs.Schedule.{opened_schedule}
use Rattle.serve_hub_tests.proofs.tests.threads.serve.Given as goal

abbrev pub ghosts-session-L-Ledger : goal.ghosts-session-L-Ledger
ghosts-session-L-Ledger g a = record { name = a.blank.name; parts = a.blank.parts }

abbrev pub ghosts-session-L-Epoch : goal.ghosts-session-L-Epoch
ghosts-session-L-Epoch g a = record { opening = opened_schedule a.setup }
