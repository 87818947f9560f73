use Rattle.serve_work.specs.History.{terms_of}
use Rattle.serve_report.proofs.control.threads.serve_lobby.Given as goal

abbrev pub ghosts-serve_door : goal.ghosts-serve_door
ghosts-serve_door g a =
    record { terms = terms_of a.session.form.workers a.session.form.quantum a.session.form.journal }
