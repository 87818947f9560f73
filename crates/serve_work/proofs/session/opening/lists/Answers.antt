use Rattle.std.proofs.Common.{refl}
use Rattle.serve_work.specs.declared.session.SessionFault.TheVariants.{NoMemory}
use Rattle.serve_work.proofs.SessionTurns.{no_bad_limit, no_memory}
use Rattle.serve_work.proofs.session.opening.lists.Goals as goal

pub returns-clause-bad_limit : goal.returns-clause-bad_limit
returns-clause-bad_limit g c = (λ is limit. absurd (cc), λ not. absurd (not c.in_ok-opened.ensures.limit))

pub returns-in_err-room-clause-bad_limit : goal.returns-in_err-room-clause-bad_limit
returns-in_err-room-clause-bad_limit g c = (
  λ is limit. no_bad_limit _ NoMemory c.from_residual-in_err-room.ensures.1 (no_memory NoMemory refl) is,
  λ not. absurd (not c.in_ok-opened.ensures.limit),
)
