use Rattle.std.proofs.Common.{reverse, take}
use Rattle.serve_hub.specs.Journal.{IsJournal}
use Rattle.serve_audit.proofs.check_all.Given as goal

abbrev pub invariant-loop-i : goal.invariant-loop-i
invariant-loop-i l = IsJournal l.fn.specs l.fn.tally (reverse (take l.i l.fn.entries)) l.tally
