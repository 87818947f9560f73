use Rattle.std.proofs.Common.{rules}
use Rattle.frame_view.proofs.Written.{put_back}
use Rattle.frame_view.proofs.frame.Frame.put_row.Goals as goal

pub returns : goal.returns
returns c = put_back c.args.p c.args.y c.args.self.now c.args.row.now _ c.requires.plane c.requires.row c.requires.columns (search rules)
