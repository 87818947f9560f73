use Rattle.std.proofs.Common.{inr, string_bytes}
use Rattle.serve_report.proofs.host.Host.run.Goals as goal

pub returns-in-Err-Help-clause-well : goal.returns-in-Err-Help-clause-well
returns-in-Err-Help-clause-well g c = λ good.
    let help = rw c.in-Err-Help.field-0-is at c.in-Err-Help.ensures.help in
    inr (help.0, (string_bytes c.in-Err-Help.text, help.1, c.write_help.ensures.well good))
