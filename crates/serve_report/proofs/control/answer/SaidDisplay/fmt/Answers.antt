use Rattle.std.proofs.Common.{append_assoc}
use Rattle.std.proofs.Output.{has_written_of_eq}
use Rattle.serve_report.proofs.control.answer.SaidDisplay.fmt.Goals as goal

pub returns-in-StandsLost-clause-writes : goal.returns-in-StandsLost-clause-writes
returns-in-StandsLost-clause-writes g c plain ok =
    has_written_of_eq _ _ _ _ _ (rw c.in-StandsLost.is (simp append_assoc)) (c.write-in-StandsLost.ensures.writes plain ok)
