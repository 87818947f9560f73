-- Lines, one after the other.
use Rattle.std.proofs.Common.{◌≡◌, ℕ, ◌+◌, ◌<◌, List, [], ◌++◌, length, get_or, take, ◌∙◌, ap, sym}
use Rattle.std.proofs.lemmas.List.{flat_map_more, take_more}
use Rattle.std.specs.List.{flat_map}

-- one line more
pub text_more : {T : Type 0} (text : T → List ℕ) (lines : List T) (i : ℕ) (d : T) → i < length lines
    → flat_map text (take (i + 1) lines) ≡ flat_map text (take i lines) ++ text (get_or lines i d)
text_more text lines i d less =
    ap (flat_map text) (take_more lines i d less)
    ∙ sym (flat_map_more text [] (take i lines) (get_or lines i d))
