use Rattle.serve_report.proofs.Inputs.{entry_moved, inputs_more}
use Rattle.serve_report.proofs.serve.opening.gather_opened.Goals as goal

pub loop-stream-preserved-in-Continue-1 : goal.loop-stream-preserved-in-Continue-1
loop-stream-preserved-in-Continue-1 g c =
    let added = c.in_ok-add_open-in-Ok.ensures in
    let inv = c.loop-stream.invariant in
    let at = rw c.in-Some.ensures.steps.0 at inv.moves in
    record {
      valid = rw (added.specs, added.inputs, c.in-Ok.is)
          (inputs_more _ _ c.in-Ok.ready.spec c.in-Ok.ready.input inv.valid c.in-Ok.ready.is_input);
      moves = rw (added.entrants, added.specs, added.inputs, c.in-Ok.is)
          (entry_moved _ _ _ c.in-Some.stream _ _ c.in-Ok.ready c.in-Ok.is at);
    }
