use Rattle.serve_core.specs.Schedule.{opened_schedule}
use Rattle.serve_hub_tests.proofs.tests.hubs.a_lease_is_out_while_the_journal_fills.Given as goal

abbrev pub ghosts-full_with_a_lease-L-Ledger : goal.ghosts-full_with_a_lease-L-Ledger
ghosts-full_with_a_lease-L-Ledger g a = record { name = a.blank.name; parts = a.blank.parts }

abbrev pub ghosts-full_with_a_lease-L-Epoch : goal.ghosts-full_with_a_lease-L-Epoch
ghosts-full_with_a_lease-L-Epoch g a = record { opening = opened_schedule a.setup }
