use Rattle.serve_report.proofs.program.replay_into.Given as goal

abbrev pub ghosts-replay_lent : goal.ghosts-replay_lent
ghosts-replay_lent g a = record { name = a.output.writer.ghost_name }
