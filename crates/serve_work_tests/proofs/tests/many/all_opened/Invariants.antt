use Rattle.serve_work.specs.Sessions.{AreInputs}
use Rattle.serve_work_tests.proofs.tests.many.all_opened.Given as goal

-- an input for each spec
abbrev pub invariant-loop-stream : goal.invariant-loop-stream
invariant-loop-stream g l = AreInputs l.specs.items l.inputs.items
