use Rattle.serve_core.specs.Schedule.{opened_schedule}
use Rattle.serve_hub_tests.proofs.tests.twins.a_hub_answers_as_its_book.Given as goal

abbrev pub ghosts-ended_after_one_frame-L-Ledger : goal.ghosts-ended_after_one_frame-L-Ledger
ghosts-ended_after_one_frame-L-Ledger g a = record { name = a.blank.name; parts = a.blank.parts }

abbrev pub ghosts-ended_after_one_frame-L-Epoch : goal.ghosts-ended_after_one_frame-L-Epoch
ghosts-ended_after_one_frame-L-Epoch g a = record { opening = opened_schedule a.setup }
