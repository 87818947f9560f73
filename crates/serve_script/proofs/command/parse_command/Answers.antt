use Rattle.std.proofs.Common.{sym}
use Rattle.serve_script.proofs.ScriptParts.{command_of-more}
use Rattle.serve_script.proofs.command.parse_command.Goals as goal

pub returns-in-Some-rest-clause-command : goal.returns-in-Some-rest-clause-command
returns-in-Some-rest-clause-command c =
    sym (command_of-more c.args.line.now c.cut.result.0.now c.cut-2.result.0.now c.cut-3.result.0.now
    c.in_ok-rest.field-0.now c.in-Some.rest.now c.in-Some-rest.field-0.now
    (rw c.in_ok-rest.was at c.cut.ensures.parts) (rw c.in-Some.is at c.cut-2.ensures.parts) (rw c.in-Some-rest.is at c.cut-3.ensures.parts))
