use Rattle.std.proofs.Common.{◌≡◌, ◌+◌, length, None, false}
use Rattle.std.specs.Option.{option_copied, option_map_or}
use Rattle.std.specs.List.{filter_map}
use Rattle.y4m_header.specs.Line.{space, values, tag_value}
use Rattle.y4m_header.specs.Text.{parts_left}
use Rattle.y4m_header.proofs.TagLists.{finish}
use Rattle.y4m_header.proofs.tags.tags_with.Given as goal

abbrev pub invariant-loop-rest : goal.invariant-loop-rest
invariant-loop-rest l =
    let left = filter_map (tag_value l.letter) (parts_left space (option_copied l.rest)) in
    finish (option_copied l.tags.first) l.tags.repeated left ≡ finish None false (values l.letter l.line)

abbrev pub decreases-loop-rest : goal.decreases-loop-rest
decreases-loop-rest l = option_map_or (λ rest. length rest.now + 1) l.rest 0
