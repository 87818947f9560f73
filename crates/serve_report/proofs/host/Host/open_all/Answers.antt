use Rattle.std.proofs.Common.{◌∙◌, subst, sym}
use Rattle.std.specs.List.{AllZip}
use Rattle.serve_report.specs.Openings.{IsOpening, opening_of, openings_of}
use Rattle.serve_report.proofs.Openings.{zipped}
use Rattle.serve_report.proofs.host.Host.open_all.Goals as goal

pub returns : goal.returns
returns g c =
    let jobs = c.in_ok-placed.placed in
    let tried = c.in_ok-tried.tried in
    let Comes = IsOpening g.F.Files.open_gives g.F.Files.create_gives c.args.height in
    subst (λ streams. AllZip Comes streams (openings_of tried.items)) c.in_ok-placed.ensures
    (zipped (λ job. job.asked) opening_of Comes jobs.items tried.items (sym tried.ok.0 ∙ c.in_ok-tried.ensures.count ∙ jobs.ok.0)
    c.in_ok-tried.ensures.each)
