use Rattle.serve_core.specs.Schedule.{opened_schedule}
use Rattle.serve_hub_tests.proofs.tests.twins.a_worker_settles_and_goes_on.Given as goal

abbrev pub ghosts-ended_after_two_leases-L-Ledger : goal.ghosts-ended_after_two_leases-L-Ledger
ghosts-ended_after_two_leases-L-Ledger g a = record { name = a.blank.name; parts = a.blank.parts }

abbrev pub ghosts-ended_after_two_leases-L-Epoch : goal.ghosts-ended_after_two_leases-L-Epoch
ghosts-ended_after_two_leases-L-Epoch g a = record { opening = opened_schedule a.setup }
