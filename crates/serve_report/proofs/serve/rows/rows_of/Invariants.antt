use Rattle.std.proofs.Common.{◌≡◌, ◌≤◌, ◌++◌, drop, length}
use Rattle.std.specs.Option.{option_map}
use Rattle.std.specs.Vec.{vec_capacity, vec_len}
use Rattle.serve_report.specs.Entrants.{rows_given, served_row}
use Rattle.serve_report.proofs.serve.rows.rows_of.Given as goal

-- the rows so far stand before those of the streams that are left, and there is room for these
abbrev pub invariant-loop-entrant : goal.invariant-loop-entrant
invariant-loop-entrant g l = record {
  rows : rows_given served_row l.entrants l.fn.left ≡ option_map (λ more. l.rows.items ++ more) (rows_given served_row
      (drop l.entrant-index l.entrants) l.left);
  count : vec_len l.rows ≡ l.entrant-index;
  room : length l.entrants ≤ vec_capacity l.rows;
}
