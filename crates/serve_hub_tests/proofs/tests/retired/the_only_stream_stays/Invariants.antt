use Rattle.serve_core.specs.Schedule.{opened_schedule}
use Rattle.serve_hub_tests.proofs.tests.retired.the_only_stream_stays.Given as goal

abbrev pub ghosts-closed-L-Ledger : goal.ghosts-closed-L-Ledger
ghosts-closed-L-Ledger g a = record { name = a.blank.name; parts = a.blank.parts }

abbrev pub ghosts-closed-L-Epoch : goal.ghosts-closed-L-Epoch
ghosts-closed-L-Epoch g a = record { opening = opened_schedule a.setup }
