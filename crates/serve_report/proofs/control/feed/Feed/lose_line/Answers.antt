use Rattle.std.proofs.Common.{◌∙◌, ◌-◌, ◌^◌, ap, arith, inr, refl, sym}
use Rattle.serve_report.specs.Feeds.{FeedState, rest_of}
use Rattle.serve_report.proofs.Feeding.{begins, loses_line, loses_more, runs_first, runs_more, runs_on}
use Rattle.serve_report.proofs.control.feed.Feed.lose_line.Goals as goal

pub loop-losses-init : goal.loop-losses-init
loop-losses-init g c = record {
  behind = begins (rest_of c.args.self.now);
  number = refl;
  head = refl;
  failures = refl;
  some = omega (arith, c.requires);
  many = runs_first (rest_of c.args.self.now);
}

pub returns-in-Some-clause-line : goal.returns-in-Some-clause-line
returns-in-Some-clause-line g c =
    let now = c.loop-losses.self in
    rw c.take_line.ensures
    (loses_line now.held (rest_of c.args.self.now) now.left c.in-Some.place c.loop-losses.invariant.behind
    (sym c.line_end.ensures ∙ c.in-Some.is))

pub loop-losses-preserved : goal.loop-losses-preserved
loop-losses-preserved g c =
    let now = c.loop-losses.self in
    let inv = c.loop-losses.invariant in
    let none = sym c.line_end.ensures ∙ c.in_default.is in
    let keeps = rw c.lose_held.ensures at c.read_more.ensures.bytes in
    let more = c.in_ok-read_more.ensures.holds_more c.if-not-branch.false in
    record {
      behind = loses_more now.held (rest_of c.args.self.now) now.left (rest_of c.read_more.new.self) inv.behind none keeps;
      number = c.read_more.ensures.number ∙ ap (λ (feed : FeedState). feed.number) c.lose_held.ensures ∙ inv.number;
      head = c.read_more.ensures.head ∙ ap (λ (feed : FeedState). feed.head) c.lose_held.ensures ∙ inv.head;
      failures = c.in_ok-read_more.ensures.failures ∙ ap (λ (feed : FeedState). feed.failures) c.lose_held.ensures ∙ inv.failures;
      some = omega (arith, more);
      many = runs_more c.loop-losses._losses now.held (rest_of c.args.self.now) now.left (rest_of c.read_more.new.self) inv.some
          inv.behind inv.many keeps;
    }

pub returns-clause-failures : goal.returns-clause-failures
returns-clause-failures g c =
    inr (runs_on c.loop-losses._losses (2 ^ 64 - 1) (omega arith) (rest_of c.args.self.now) (rest_of c.loop-losses.self)
    c.loop-losses.invariant.behind c.loop-losses.invariant.many)
