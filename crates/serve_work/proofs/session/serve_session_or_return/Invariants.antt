use Rattle.serve_work.specs.History.{terms_with}
use Rattle.serve_work.proofs.session.serve_session_or_return.Given as goal

abbrev pub ghosts-serve_untold : goal.ghosts-serve_untold
ghosts-serve_untold g a = record { terms = terms_with a.setup a.limit }
