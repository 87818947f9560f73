use Rattle.std.proofs.Common.{◌∙◌, ℕ, List, ap, subst, sym}
use Rattle.serve_report.specs.Feeds.{FeedState, Wrong, rest_of}
use Rattle.serve_report.specs.declared.control.line.LineFault.TheVariants.{TooLong}
use Rattle.serve_report.proofs.Feeding.{Tells, tells_kept, tells_line, tells_long}
use Rattle.serve_report.proofs.control.feed.Feed.take_next.Goals as goal

pub returns-in-Ok-Ended-clause-line : goal.returns-in-Ok-Ended-clause-line
returns-in-Ok-Ended-clause-line g c =
    let mid = c.find.new.self in
    let found = rw c.in-Ok-Ended.field-0-is at c.in-Ok-Ended.ensures.found in
    rw c.take_line.ensures
    (record {
      told = tells_kept (rest_of c.args.self.now) _ _ _ c.find.ensures.bytes
          (tells_line mid.held mid.left c.in-Ok-Ended.place found.0 found.1);
    })

pub returns-in-Ok-clause-line : goal.returns-in-Ok-clause-line
returns-in-Ok-clause-line g c =
    let mid = c.find.new.self in
    let new = c.lose_line.new.self in
    let found = rw c.in-Ok-Long.field-0-is at c.in-Ok-Long.ensures.found in
    let head = c.in-Ok.ensures.head ∙ ap (λ (feed : FeedState). feed.head) c.keep_head.ensures in
    let loses = rw c.keep_head.ensures at c.in-Ok.ensures.line in
    record {
      told = tells_kept (rest_of c.args.self.now) _ _ _ c.find.ensures.bytes
          (subst (λ (head : List ℕ). Tells (rest_of mid) (Wrong TooLong head) (rest_of new)) (sym head)
          (tells_long mid.held mid.left (rest_of new) found.0 found.1 loses));
    }
