use Rattle.std.proofs.Common.{rules}
use Rattle.frame_view.proofs.Filled.{filled}
use Rattle.frame_view.proofs.frame.Frame.fill.Goals as goal

pub returns-clause-filled : goal.returns-clause-filled
returns-clause-filled c = filled c.args.self.now c.args.samples _ (search rules)
