use Rattle.std.proofs.Common.{subst}
use Rattle.serve_hub.specs.declared.entry.Entry.{Entry}
use Rattle.serve_hub.specs.declared.entry.Seat.TheVariants as seats
use Rattle.serve_audit.specs.Audit.{Checked}
use Rattle.serve_audit.proofs.Histories.{seated}
use Rattle.serve_audit.proofs.check.Goals as goal

pub returns-in-Worker-clause-checked : goal.returns-in-Worker-clause-checked
returns-in-Worker-clause-checked c =
    subst (λ (e : Entry). Checked c.args.specs.now c.args.tally.now e c.check_worker.result c.check_worker.new.tally)
    (seated (seats.Worker c.in-Worker.w) c.args.entry c.in-Worker.is)
    (c.check_worker.ensures c.args.specs.now)
