use Rattle.serve_work.specs.History.{terms_with}
use Rattle.serve_work_tests.proofs.tests.told.told.Given as goal

abbrev pub ghosts-told_by : goal.ghosts-told_by
ghosts-told_by g a = record { terms = terms_with a.setup 16 }
