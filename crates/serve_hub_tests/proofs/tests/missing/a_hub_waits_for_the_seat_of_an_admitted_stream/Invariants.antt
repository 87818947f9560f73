use Rattle.serve_core.specs.Schedule.{opened_schedule}
use Rattle.serve_hub_tests.proofs.tests.missing.a_hub_waits_for_the_seat_of_an_admitted_stream.Given as goal

abbrev pub ghosts-without_the_last-L-Ledger : goal.ghosts-without_the_last-L-Ledger
ghosts-without_the_last-L-Ledger g a = record { name = a.blank.name; parts = a.blank.parts }

abbrev pub ghosts-without_the_last-L-Epoch : goal.ghosts-without_the_last-L-Epoch
ghosts-without_the_last-L-Epoch g a = record { opening = opened_schedule a.setup }
