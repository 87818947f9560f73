use Rattle.std.proofs.Common.{rules}
use Rattle.serve_core.proofs.schedule.Schedule.admit_refusal.Goals as goal

pub returns-then-not-is_within_limits : goal.returns-then-not-is_within_limits
returns-then-not-is_within_limits c = search rules

pub returns-in-Ok : goal.returns-in-Ok
returns-in-Ok c = search rules

pub returns-in-Err-BadBandwidth : goal.returns-in-Err-BadBandwidth
returns-in-Err-BadBandwidth c = search rules

pub returns-in-Err-Overload : goal.returns-in-Err-Overload
returns-in-Err-Overload c = search rules
