use Rattle.std.proofs.Common.{◌∙◌, [], Ok, Option, Result, Some, None, ap, subst}
use Rattle.std.specs.Bool.{⊤}
use Rattle.std.specs.declared.alloc.Global.{Global}
use Rattle.std.specs.declared.sync.Arc.{Arc}
use Rattle.std.specs.Arc.{arc_value}
use Rattle.frame_view.specs.declared.frame.Frame.{Frame}
use Rattle.y4m_stream.specs.Reader.{ReaderState}
use Rattle.serve_client.specs.declared.feeding.Fed.{Fed}
use Rattle.serve_client.specs.ClientInside.{FeedsOn, Holds, text_in}
use Rattle.serve_client.proofs.Tallying.{counted_later}
use Rattle.serve_client.proofs.Passing.{FeedsOn-behind, Feeds-unfed, Passes-none, passed_once}
use Rattle.serve_client.proofs.Pipelines.{CanReadOn-later, HasFed-trans}
use Rattle.serve_client.proofs.pipeline.Pipeline.feed.Goals as goal

pub returns-in-None-clause-answer : goal.returns-in-None-clause-answer
returns-in-None-clause-answer g c = λ past before counted h.
    let old = c.args.self.now in
    let new = c.feed_on.new.self in
    let none : Holds before old.reader None = subst (λ (o : Option (Arc Frame Global)). Holds before old.reader (text_in o))
    c.in-None.is h in
    subst (λ (r : ReaderState). FeedsOn c.feed_on.result past r new.reader old.seat new.seat old.writer new.writer) none
    (c.feed_on.ensures.answer past counted)

pub accept-requires : goal.accept-requires
accept-requires g c = record { can = c.requires.can.offer; frame = rw c.in-Some.is at c.requires.frame }

pub feed_on-requires-in-Ok : goal.feed_on-requires-in-Ok
feed_on-requires-in-Ok g c = record {
  can = CanReadOn-later c.args.self.now c.accept.new.self (g.K.Clock.gives c.args.post.clock.now) _ c.in-Ok.ensures.answer
      c.in-Ok.ensures.has_fed (ap (λ (r : ReaderState). r.phase) c.accept.ensures.reader ∙ c.requires.can.is_open) c.requires.can;
}

pub returns-in-Ok-clause-answer : goal.returns-in-Ok-clause-answer
returns-in-Ok-clause-answer g c = λ past before counted h.
    let old = c.args.self.now in
    let at = c.accept.new.self in
    let new = c.feed_on-in-Ok.new.self in
    let some : Holds before old.reader (text_in (Some c.in-Some.frame)) = subst (λ (o : Option (Arc Frame Global)). Holds before old.reader
    (text_in o)) c.in-Some.is h in
    let there : Holds before at.reader (text_in (Some c.in-Some.frame)) = rw c.accept.ensures.reader some in
    let done : Result ⊤ Fed = Ok tt in
    let first = passed_once before before old.seat old.seat old.writer old.writer [] (Passes-none before old.seat old.writer) done
    at.reader at.seat at.writer (arc_value c.in-Some.frame) there.0 there.1 c.in-Ok.ensures.answer in
    FeedsOn-behind before at.reader old.seat at.seat old.writer at.writer first.frames first.passed past c.feed_on-in-Ok.result
    new.reader new.seat new.writer
    (c.feed_on-in-Ok.ensures.answer past (counted_later past old.seat at.seat c.accept.ensures.has_fed.tally.seat counted))

pub returns-in-Ok-clause-has_fed : goal.returns-in-Ok-clause-has_fed
returns-in-Ok-clause-has_fed g c =
    HasFed-trans c.args.self.now c.accept.new.self (g.K.Clock.gives c.args.post.clock.now) (Some c.feed_on-in-Ok.result)
    c.feed_on-in-Ok.new.self c.in-Ok.ensures.answer.seat_stays c.in-Ok.ensures.has_fed c.feed_on-in-Ok.ensures.has_fed

pub returns-in-Err-clause-answer : goal.returns-in-Err-clause-answer
returns-in-Err-clause-answer g c = λ past before counted h.
    let old = c.args.self.now in
    let new = c.accept.new.self in
    let some : Holds before old.reader (text_in (Some c.in-Some.frame)) = subst (λ (o : Option (Arc Frame Global)). Holds before old.reader
    (text_in o)) c.in-Some.is h in
    let there : Holds before new.reader (text_in (Some c.in-Some.frame)) = rw c.accept.ensures.reader some in
    Feeds-unfed before before old.seat old.seat old.writer old.writer [] (Passes-none before old.seat old.writer) past c.in-Err.fed
    new.reader new.seat new.writer (arc_value c.in-Some.frame) counted there.0 there.1 c.in-Err.ensures.answer
