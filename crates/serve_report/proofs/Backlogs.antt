-- The parts of a text that are written one behind the other.
use Rattle.std.proofs.Common.{◌≡◌, ℕ, ◌+◌, ◌-◌, ◌≤◌, List, ◌++◌, ◌∙◌, ap, arith, drop, sym, take}
use Rattle.std.proofs.lemmas.List.{drop-take, take-append-drop, take-take}

-- one part more
pub part_more : (text : List ℕ) (from end : ℕ) → from ≤ end
    → take from text ++ take (end - from) (drop from text) ≡ take end text
part_more text from end less =
    let more = end - from in
    let whole : from + more ≡ end = omega arith in
    ap (λ (front : List ℕ). front ++ take more (drop from text)) (sym (take-take from (from + more) text (omega arith)))
    ∙ ap (λ (part : List ℕ). take from (take (from + more) text) ++ part) (sym (drop-take from more text))
    ∙ take-append-drop from (take (from + more) text)
    ∙ ap (λ (n : ℕ). take n text) whole
