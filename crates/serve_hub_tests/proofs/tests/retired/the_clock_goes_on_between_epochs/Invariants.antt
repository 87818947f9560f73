use Rattle.serve_core.specs.Schedule.{opened_schedule}
use Rattle.serve_hub_tests.proofs.tests.retired.the_clock_goes_on_between_epochs.Given as goal

abbrev pub ghosts-over-L-Ledger : goal.ghosts-over-L-Ledger
ghosts-over-L-Ledger g a = record { name = a.blank.name; parts = a.blank.parts }

abbrev pub ghosts-over-L-Epoch : goal.ghosts-over-L-Epoch
ghosts-over-L-Epoch g a = record { opening = opened_schedule a.setup }
