use Rattle.serve_core.specs.Schedule.{opened_schedule}
use Rattle.serve_work.proofs.live.serve_from.Given as goal

abbrev pub ghosts-first_epoch-L-Ledger : goal.ghosts-first_epoch-L-Ledger
ghosts-first_epoch-L-Ledger g a = record { name = a.blank.name; parts = a.blank.parts }

abbrev pub ghosts-first_epoch-L-Epoch : goal.ghosts-first_epoch-L-Epoch
ghosts-first_epoch-L-Epoch g a = record { opening = opened_schedule a.stream.setup }
