use Rattle.std.proofs.Common.{◌≡◌, take}
use Rattle.serve_report.specs.Holdings.{held_by}
use Rattle.serve_report.proofs.control.holders.Holders.parts_at.Given as goal

abbrev pub invariant-loop-holder : goal.invariant-loop-holder
invariant-loop-holder l = l.parts ≡ held_by l.fn.moment (take l.holder-index l.fn.self.all.items)
