use Rattle.serve_report.proofs.filtering.Filtering.filter_into.Given as goal

abbrev pub ghosts-filter_lent : goal.ghosts-filter_lent
ghosts-filter_lent g a = record { name = a.output.writer.ghost_name }
