use Rattle.serve_core.specs.Schedule.{opened_schedule}
use Rattle.serve_work.proofs.session.serve_session_told.Given as goal

abbrev pub ghosts-begin-L-Ledger : goal.ghosts-begin-L-Ledger
ghosts-begin-L-Ledger g a = record { name = a.blank.name; parts = a.blank.parts }

abbrev pub ghosts-begin-L-Epoch : goal.ghosts-begin-L-Epoch
ghosts-begin-L-Epoch g a = record { opening = opened_schedule a.setup }
