use Rattle.std.proofs.Common.{arith, nat_lt, sym}
use Rattle.serve_report.proofs.Keeping.{behind_all}
use Rattle.serve_report.proofs.control.holders.Holders.place_behind.Goals as goal

pub returns-in-None-clause-place : goal.returns-in-None-clause-place
returns-in-None-clause-place c =
    let all = c.args.self.now.all in
    let behind = behind_all (λ one. nat_lt c.args.ticket one.ticket) all.items (sym c.in-None.ensures) in
    omega (arith, c.len.ensures, all.ok.0, behind)
