use Rattle.std.proofs.lemmas.Result.{err_from_is_err_and}
use Rattle.y4m_stream.specs.declared.fault.ReadFault.TheVariants.{Device}
use Rattle.y4m_stream.proofs.Reading.{StandsAtFrame-behind_line}
use Rattle.y4m_stream.proofs.frame_line.take_data.Goals as goal

pub returns-in_err-take_exactly-clause-fault : goal.returns-in_err-take_exactly-clause-fault
returns-in_err-take_exactly-clause-fault g c =
    let passed = err_from_is_err_and c.from_residual.result c.from_residual.ensures.1 in
    let held = c.args.input.now.held in
    let lacks = rw (c.consume.ensures, c.data_mut.ensures.value) at c.in_err-take_exactly.ensures.fault in
    rw (passed.1, passed.2)
    (StandsAtFrame-behind_line held c.args.end c.requires.held.line c.requires.held.is_frame_line _ _ c.args.input.now.left _ lacks)

pub returns-in_err-take_exactly-clause-given : goal.returns-in_err-take_exactly-clause-given
returns-in_err-take_exactly-clause-given g c =
    let passed = err_from_is_err_and c.from_residual.result c.from_residual.ensures.1 in
    let held = c.args.input.now.held in
    let lacks = rw (c.consume.ensures, c.data_mut.ensures.value) at c.in_err-take_exactly.ensures.given in
    rw passed.1 (StandsAtFrame-behind_line held c.args.end c.requires.held.line c.requires.held.is_frame_line _ Device c.args.input.now.left _ lacks)
