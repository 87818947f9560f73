use Rattle.serve_core.specs.Schedule.{opened_schedule}
use Rattle.serve_hub_tests.proofs.tests.admissions.an_admission_without_memory_leaves_the_hub.Given as goal

abbrev pub ghosts-admitted_or_not-L-Ledger : goal.ghosts-admitted_or_not-L-Ledger
ghosts-admitted_or_not-L-Ledger g a = record { name = a.blank.name; parts = a.blank.parts }

abbrev pub ghosts-admitted_or_not-L-Epoch : goal.ghosts-admitted_or_not-L-Epoch
ghosts-admitted_or_not-L-Epoch g a = record { opening = opened_schedule a.setup }
