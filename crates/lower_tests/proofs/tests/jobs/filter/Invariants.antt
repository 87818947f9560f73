use Rattle.std.specs.Arc.{arc_value}
use Rattle.lease.specs.Canvases.{IsScratch}
use Rattle.lower_tests.proofs.tests.jobs.filter.Given as goal

abbrev pub invariant-loop-frame : goal.invariant-loop-frame
invariant-loop-frame g l = IsScratch (arc_value l.spec) l.scratch
