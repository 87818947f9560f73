use Rattle.std.proofs.Common.{◌∙◌, ap, refl, sym}
use Rattle.y4m_stream.specs.Failures.{one_more}
use Rattle.serve_report.specs.Openings.{HasNoEntry, IsEntry, made_after}
use Rattle.serve_report.proofs.Openings.{entry_come, made_come}
use Rattle.serve_report.proofs.host.Host.try_stream.Goals as goal

pub returns : goal.returns
returns g c =
    let ready = c.open_stream-ready in
    record {
      name = refl;
      opened = ready.ensures.opened ∙ ap one_more c.new-files.ensures.opened;
      made = ready.ensures.made ∙ ap (made_after ready.result) c.new-files.ensures.made ∙ sym (made_come ready.result 0);
      came = entry_come (IsEntry g.F.Files.open_gives g.F.Files.create_gives c.args.height c.args.placed.asked)
          (HasNoEntry g.F.Files.open_gives g.F.Files.create_gives c.args.height c.args.placed.asked)
          ready.result ready.ensures.ready ready.ensures.stop;
    }
