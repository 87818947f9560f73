use Rattle.std.proofs.Common.{◌≡◌, ◌+◌, ◌++◌, length, map}
use Rattle.std.specs.Option.{option_copied, option_map_or}
use Rattle.y4m_header.specs.Line.{space}
use Rattle.y4m_header.specs.Text.{parts_left}
use Rattle.y4m_header.specs.Resized.{resized_line, resized_piece}
use Rattle.y4m_header.proofs.Joined.{spaced}
use Rattle.y4m_header.proofs.resized.resized_line.Given as goal

abbrev pub invariant-loop-rest : goal.invariant-loop-rest
invariant-loop-rest l =
    let left = map (resized_piece l.width l.height) (parts_left space (option_copied l.rest)) in
    l.out.items ++ spaced left ≡ resized_line l.line l.width l.height

abbrev pub decreases-loop-rest : goal.decreases-loop-rest
decreases-loop-rest l = option_map_or (λ rest. length rest.now + 1) l.rest 0
