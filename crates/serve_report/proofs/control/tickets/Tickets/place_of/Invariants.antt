use Rattle.std.proofs.Common.{◌≢◌, ◌<◌, ℕ}
use Rattle.std.specs.Prelude.{slice_index_or}
use Rattle.serve_report.proofs.control.tickets.Tickets.place_of.Given as goal

-- the ticket isn't among those that were looked at
abbrev pub invariant-loop-place : goal.invariant-loop-place
invariant-loop-place l = (k d : ℕ) → k < l.place → slice_index_or l.fn.self k d ≢ l.fn.ticket
