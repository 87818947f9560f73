use Rattle.serve_work.proofs.live.admission.admit_all.Goals as goal

pub returns-in-None : goal.returns-in-None
returns-in-None g c =
    let at = c.loop.invariant.seated in record { seated = (at.0, at.1, c.in-None.ensures.none at.0 at.1 at.2, at.3) }

pub admit-requires-clause-seated : goal.admit-requires-clause-seated
admit-requires-clause-seated g c =
    let at = c.loop.invariant.seated in (at.0, at.1, c.in-Some.ensures.given at.0 at.1 at.2, at.3)
