use Rattle.std.proofs.Common.{◌≡◌, ◌≤◌, ◌∙◌, ℕ, List, ap, arith, length, take}
use Rattle.std.proofs.lemmas.List.{length-take, take-append-le, take-take, take_min}
use Rattle.serve_report.specs.declared.control.quoted.TheConstants.{MOST_TOLD}
use Rattle.serve_report.proofs.control.feed.head_of.Goals as goal

pub returns-clause-head : goal.returns-clause-head
returns-clause-head c =
    let bytes = c.args.bytes.now in
    let count = c.min-count.result in
    let copied : c.copy_from_slice.new.self ≡ take count bytes = c.copy_from_slice.ensures.after in
    let long : count ≤ length c.copy_from_slice.new.self =
    omega (arith, ap length copied, length-take count bytes, c.min-count.ensures) in
    take-append-le count c.copy_from_slice.new.self _ long
    ∙ ap (λ (part : List ℕ). take count part) copied
    ∙ take-take count count bytes (omega arith)
    ∙ ap (λ (n : ℕ). take n bytes) c.min-count.ensures
    ∙ take_min MOST_TOLD bytes
