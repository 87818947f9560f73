use Rattle.std.specs.Vec.Iter.{into_iter_items}
use Rattle.serve_work.specs.Sessions.{AreInputs}
use Rattle.serve_report.proofs.Inputs.{Moves}
use Rattle.serve_report.proofs.serve.opening.gather_opened.Given as goal

-- each stream that was opened has an input, and the streams come over in order
abbrev pub invariant-loop-stream : goal.invariant-loop-stream
invariant-loop-stream g l = record {
  valid : AreInputs l.opened.specs.items l.opened.inputs.items;
  moves : Moves l.opened.entrants.items l.opened.specs.items l.opened.inputs.items
      (into_iter_items l.stream-iterator) l.fn.tried.items;
}
