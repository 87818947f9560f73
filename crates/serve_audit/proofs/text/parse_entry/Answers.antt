use Rattle.serve_audit.proofs.Texts.{too_many}
use Rattle.serve_audit.proofs.text.parse_entry.Goals as goal

pub returns-in-Some-rest-3 : goal.returns-in-Some-rest-3
returns-in-Some-rest-3 c =
    too_many c.args.line.now _ _ _ _ _ _ _ _ _ _ _ _ _ _ _
    c.cut.ensures.parts c.in_ok-rest.was c.cut-2.ensures.parts c.in-Some.is c.cut-3.ensures.parts c.in-Some-rest.is
    c.cut-4.ensures.parts c.in-Some-rest-2.is c.cut-5.ensures.parts c.in-Some-rest-3.is
