use Rattle.std.proofs.Common.{◌∙◌, ℕ, List, [], ◌∷◌, ◌++◌, ap, arith}
use Rattle.std.proofs.Output.{has_written_append, has_written_of_eq}
use Rattle.std.proofs.lemmas.List.{take_all}
use Rattle.std.specs.List.{flat_map}
use Rattle.serve_report.specs.Quoted.{byte_told}
use Rattle.serve_report.proofs.control.quoted.QuotedDisplay.fmt.Goals as goal

pub returns-clause-writes : goal.returns-clause-writes
returns-clause-writes g c plain ok =
    let whole = c.loop-byte.invariant plain in
    let same = take_all c.loop-byte.byte-index c.front_of-line.result.now (omega arith) ∙ c.front_of-line.ensures in
    has_written_of_eq _ _ _ _ _ (ap (λ (line : List ℕ). 39 ∷ (flat_map byte_told line ++ 39 ∷ [])) same)
    (has_written_append _ _ _ _ _ _ whole (c.write_str-2.ensures.writes whole.plain ok))
