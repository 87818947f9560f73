use Rattle.serve_core.specs.Schedule.{opened_schedule}
use Rattle.serve_hub_tests.proofs.tests.seats.a_stray_lease_comes_back.Given as goal

abbrev pub ghosts-strayed-L-Ledger : goal.ghosts-strayed-L-Ledger
ghosts-strayed-L-Ledger g a = record { name = a.blank.name; parts = a.blank.parts }

abbrev pub ghosts-strayed-L-Epoch : goal.ghosts-strayed-L-Epoch
ghosts-strayed-L-Epoch g a = record { opening = opened_schedule a.setup }
