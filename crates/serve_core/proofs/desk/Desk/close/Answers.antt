use Rattle.serve_core.proofs.Calls.Desks.{closed}
use Rattle.serve_core.proofs.desk.Desk.close.Goals as goal

pub invariant_of-self : goal.invariant_of-self
invariant_of-self c =
    (closed c.self.inside.schedule c.close.new.self c.args.s c.close.result c.self.invariant c.close.ensures.ok
    c.close.ensures.err).1

pub returns-clause-events : goal.returns-clause-events
returns-clause-events c =
    rw (← c.self.view_is) (closed c.self.inside.schedule c.close.new.self c.args.s c.close.result
    c.self.invariant c.close.ensures.ok c.close.ensures.err).0
