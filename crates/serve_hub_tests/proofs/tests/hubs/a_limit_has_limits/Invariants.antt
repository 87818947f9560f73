use Rattle.serve_core.specs.Schedule.{opened_schedule}
use Rattle.serve_hub_tests.proofs.tests.hubs.a_limit_has_limits.Given as goal

abbrev pub ghosts-short-L-Ledger : goal.ghosts-short-L-Ledger
ghosts-short-L-Ledger g a = record { name = a.blank.name; parts = a.blank.parts }

abbrev pub ghosts-short-L-Epoch : goal.ghosts-short-L-Epoch
ghosts-short-L-Epoch g a = record { opening = opened_schedule a.setup }
