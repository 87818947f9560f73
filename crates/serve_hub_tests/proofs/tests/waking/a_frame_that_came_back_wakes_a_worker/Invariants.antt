use Rattle.serve_core.specs.Schedule.{opened_schedule}
use Rattle.serve_hub_tests.proofs.tests.waking.a_frame_that_came_back_wakes_a_worker.Given as goal

abbrev pub ghosts-handed_over-L-Ledger : goal.ghosts-handed_over-L-Ledger
ghosts-handed_over-L-Ledger g a = record { name = a.blank.name; parts = a.blank.parts }

abbrev pub ghosts-handed_over-L-Epoch : goal.ghosts-handed_over-L-Epoch
ghosts-handed_over-L-Epoch g a = record { opening = opened_schedule a.setup }
