use Rattle.std.proofs.Common.{rules, slice_index_or, subst, sym}
use Rattle.serve_report.specs.Openings.{IsOpening, opening_of}
use Rattle.serve_report.specs.declared.serve.opening.Placed.{Placed}
use Rattle.serve_report.proofs.host.Host.try_all.Goals as goal

pub returns-clause-each : goal.returns-clause-each
returns-clause-each g c = λ i job given less.
    let came = (c.in_ok-tried.ensures.each i given less).1 in
    let call = came.call in
    subst (λ (placed : Placed). IsOpening g.F.Files.open_gives g.F.Files.create_gives c.args.height placed.asked
    (opening_of (slice_index_or c.in_ok-tried.tried.items i given)))
    (sym (came.job_is job)) (search rules)
