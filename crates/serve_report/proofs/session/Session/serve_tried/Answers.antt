use Rattle.std.proofs.Common.{◌∙◌, ap, sym}
use Rattle.serve_report.specs.Entrants.{rows_given, served_row}
use Rattle.serve_report.specs.Openings.{openings_of}
use Rattle.serve_report.proofs.Inputs.{leaves_told}
use Rattle.serve_report.proofs.Reporting.{left_in_time}
use Rattle.serve_report.proofs.session.Session.serve_tried.Goals as goal

pub returns : goal.returns
returns g c =
    let opened = c.in_ok-entrants.ensures in
    let left = c.in_ok-left.left.items in
    let given = rw (c.deref.ensures.value, c.deref-2.ensures.value) at c.in-Some.ensures in
    record {
      left = left;
      session = leaves_told g.W.Sink.contents g.W.Sink.failures _ _ _ _ (openings_of c.args.tried.items) _ _ left opened.specs
          opened.inputs c.in_ok-left.ensures;
      given = ap (λ streams. rows_given served_row streams left) (sym opened.entrants) ∙ sym given;
      in_time = λ most. left_in_time _ most _ _ _ _ _ left c.in_ok-left.ensures;
    }
