use Rattle.serve_core.specs.Schedule.{opened_schedule}
use Rattle.serve_hub_tests.proofs.tests.replayed.an_admission_is_replayed_from_its_end.Given as goal

abbrev pub ghosts-admitted-L-Ledger : goal.ghosts-admitted-L-Ledger
ghosts-admitted-L-Ledger g a = record { name = a.blank.name; parts = a.blank.parts }

abbrev pub ghosts-admitted-L-Epoch : goal.ghosts-admitted-L-Epoch
ghosts-admitted-L-Epoch g a = record { opening = opened_schedule a.setup }
