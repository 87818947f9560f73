use Rattle.filters.proofs.ChainImages.{is_frame_line}
use Rattle.lower_tests.proofs.tests.operations.apply.band_by_itself.Goals as goal

pub new-requires : goal.new-requires
new-requires g c = is_frame_line _ c.line.ensures.is_line
