use Rattle.std.proofs.Common.{rules}
use Rattle.frame_view.proofs.frame.Frame.data.Goals as goal

pub returns-clause-value : goal.returns-clause-value
returns-clause-value c = search rules

pub returns-clause-len : goal.returns-clause-len
returns-clause-len c = search rules
