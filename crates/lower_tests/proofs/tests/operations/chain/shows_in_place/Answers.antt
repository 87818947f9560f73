use Rattle.std.proofs.Common.{◌≡◌, ◌∙◌}
use Rattle.frame_view.specs.Frame.{line_of}
use Rattle.row_bands.specs.Canvas.{frame_of}
use Rattle.filters.proofs.ChainImages.{is_frame_line}
use Rattle.filters.proofs.Front.{of_last_of_all}
use Rattle.lower_tests.proofs.tests.operations.chain.shows_in_place.Goals as goal

pub canvases-requires : goal.canvases-requires
canvases-requires g c = is_frame_line _ c.line.ensures.is_line

pub apply_into-requires-clause-line : goal.apply_into-requires-clause-line
apply_into-requires-clause-line g c =
    rw c.as_mut_slice.ensures.value
    (of_last_of_all (λ canvas. line_of (frame_of canvas) ≡ line_of c.args.source) c.in_ok-canvases.canvases.items
    (λ i d h. c.in_ok-canvases.ensures.lines i d h ∙ c.line.ensures.value))
