use Rattle.std.proofs.Common.{subst, sym}
use Rattle.serve_report.specs.Runs.{IsDone}
use Rattle.serve_words.specs.declared.request.Request.{Request}
use Rattle.serve_report.proofs.host.Host.run_request.Goals as goal

pub returns-in-Serve-clause-well : goal.returns-in-Serve-clause-well
returns-in-Serve-clause-well g c = λ zero. subst
    (λ (request : Request). IsDone g.F.Files.place_gives g.F.Files.open_gives g.F.Files.create_gives request
    (g.R.Read.remaining c.args.input) (g.W.Write.contents c.args.output.now) (g.W.Write.contents c.run_serve.new.output))
    (sym c.in-Serve.is) (c.run_serve.ensures.well zero)
