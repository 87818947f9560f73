use Rattle.std.proofs.Common.{◌∙◌, ap, refl, sym}
use Rattle.serve_report.specs.Control.{text_asks}
use Rattle.serve_report.proofs.Lines.{no_text, of_text}
use Rattle.serve_report.proofs.control.line.parse_line.Goals as goal

pub returns-in_default : goal.returns-in_default
returns-in_default c = (
  refl,
  no_text c.args.is_input_taken c.args.line.now (sym c.is_silent.ensures ∙ c.if-is_silent.false) c.in_default.ensures.cases.0,
)

pub returns-in-Some : goal.returns-in-Some
returns-in-Some c =
    of_text c.args.is_input_taken c.args.line.now (sym c.is_silent.ensures ∙ c.if-is_silent.false) c.in-Ok.ensures.cases.1
    ∙ ap (text_asks c.args.is_input_taken) (sym c.in-Ok.ensures.cases.0) ∙ sym c.in-Some.ensures
