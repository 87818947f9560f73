use Rattle.std.proofs.Common.{arith, sym}
use Rattle.std.proofs.lemmas.List.{length-take-le, take_all}
use Rattle.serve_report.specs.declared.control.quoted.TheConstants.{MOST_TOLD}
use Rattle.serve_report.proofs.control.quoted.front_of.Goals as goal

pub slice_bounds-result-end : goal.slice_bounds-result-end
slice_bounds-result-end c = sym (length-take-le MOST_TOLD c.args.line.now (omega arith))

pub returns-else-line-gt-MOST_TOLD : goal.returns-else-line-gt-MOST_TOLD
returns-else-line-gt-MOST_TOLD c = sym (take_all MOST_TOLD c.args.line.now (omega arith))
