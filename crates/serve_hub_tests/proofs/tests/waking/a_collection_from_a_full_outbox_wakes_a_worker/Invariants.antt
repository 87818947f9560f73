use Rattle.serve_core.specs.Schedule.{opened_schedule}
use Rattle.serve_hub_tests.proofs.tests.waking.a_collection_from_a_full_outbox_wakes_a_worker.Given as goal

abbrev pub ghosts-narrow_end-L-Ledger : goal.ghosts-narrow_end-L-Ledger
ghosts-narrow_end-L-Ledger g a = record { name = a.blank.name; parts = a.blank.parts }

abbrev pub ghosts-narrow_end-L-Epoch : goal.ghosts-narrow_end-L-Epoch
ghosts-narrow_end-L-Epoch g a = record { opening = opened_schedule a.setup }
