use Rattle.std.proofs.Common.{◌≡◌, take}
use Rattle.serve_core.specs.Admitted.{AreAdmitted}
use Rattle.serve_core.specs.Setup.{load}
use Rattle.serve_core.proofs.setup.admit_all.Given as goal

abbrev pub invariant-loop-s : goal.invariant-loop-s
invariant-loop-s l = record {
  load : l.admission ≡ load l.fn.workers (take l.s l.fn.streams);
  admitted : AreAdmitted l.fn.workers (take l.s l.fn.streams);
}
