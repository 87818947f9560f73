use Rattle.std.proofs.Common.{◌≡◌, ◌<◌, length}
use Rattle.serve_report.proofs.Feeding.{Behind, RunsOn}
use Rattle.serve_report.specs.Feeds.{rest_of}
use Rattle.serve_report.proofs.control.feed.Feed.lose_line.Given as goal

abbrev pub invariant-loop-losses : goal.invariant-loop-losses
invariant-loop-losses g l = record {
  behind : Behind (rest_of l.fn.self) (rest_of l.self);
  number : l.self.number ≡ l.fn.self.number;
  head : l.self.head ≡ l.fn.self.head;
  failures : l.self.failures ≡ l.fn.self.failures;
  some : 0 < length l.self.held;
  many : RunsOn l._losses (rest_of l.fn.self) (rest_of l.self);
}
