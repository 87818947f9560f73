use Rattle.frame_view.proofs.OtherRows.{lent_rows_leave_the_others}
use Rattle.frame_view.proofs.laws.lent_rows_leave_the_others.Goals as goal

pub returns : goal.returns
returns c = lent_rows_leave_the_others c.args.frame.now
