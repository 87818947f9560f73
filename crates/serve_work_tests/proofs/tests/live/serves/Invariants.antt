use Rattle.serve_work.specs.History.{terms_of}
use Rattle.serve_work_tests.proofs.tests.live.serves.Given as goal

abbrev pub ghosts-serves_by : goal.ghosts-serves_by
ghosts-serves_by g a = record { terms = terms_of a.workers 4 256 }
