use Rattle.serve_work.specs.History.{terms_of}
use Rattle.serve_work_tests.proofs.tests.clocks.a_share_is_free_beside_a_silent_stream.Given as goal

abbrev pub ghosts-serves_by : goal.ghosts-serves_by
ghosts-serves_by g a = record { terms = terms_of 1 4 256 }
