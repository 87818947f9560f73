use Rattle.serve_work.specs.Intervals.{GoesLater}
use Rattle.serve_work.proofs.session.epochs.go_on.Given as goal

abbrev pub ghosts-run_next-L-Ledger : goal.ghosts-run_next-L-Ledger
ghosts-run_next-L-Ledger g a = record { name = a.blank.name; parts = a.blank.parts }

abbrev pub ghosts-run_next-L-Epoch : goal.ghosts-run_next-L-Epoch
ghosts-run_next-L-Epoch g a = record { opening = a.interval.ended.book.desk }

-- the session is later than it was, whatever it began with
abbrev pub invariant-loop : goal.invariant-loop
invariant-loop g l =
    GoesLater (g.C.Chronicle.stands l.initial.chronicle) (g.C.Chronicle.stands l.chronicle) g.C.Chronicle.terms
    (g.K.Clock.gives l.fn.setting.clock.now) l.fn.interval l.interval
