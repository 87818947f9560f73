use Rattle.std.proofs.Common.{◌≡◌, ◌-◌, length}
use Rattle.std.specs.Io.KnownBytes.{Keeps}
use Rattle.serve_report.specs.Feeds.{rest_of}
use Rattle.serve_report.proofs.control.feed.Feed.find.Given as goal

abbrev pub invariant-loop-self : goal.invariant-loop-self
invariant-loop-self g l = record {
  bytes : Keeps (rest_of l.fn.self) (rest_of l.self);
  number : l.self.number ≡ l.fn.self.number;
  failures : l.self.failures ≡ l.fn.self.failures;
}

abbrev pub decreases-loop-self : goal.decreases-loop-self
decreases-loop-self g l = 1025 - length l.self.held
