use Rattle.std.proofs.Common.{Option, Some, None, refl, subst}
use Rattle.std.specs.declared.alloc.Global.{Global}
use Rattle.std.specs.declared.sync.Arc.{Arc}
use Rattle.frame_view.specs.declared.frame.Frame.{Frame}
use Rattle.y4m_stream.specs.Reader.{ReaderState}
use Rattle.serve_client.specs.ClientInside.{Holds, text_in}
use Rattle.serve_client.specs.Holding.{OffersOn}
use Rattle.serve_client.proofs.Tallying.{KeepsMoments-trans, TalliesSeat-trans, counted_later}
use Rattle.serve_client.proofs.OfferingOn.{OffersOn-behind}
use Rattle.serve_client.proofs.Staying.{same_chain}
use Rattle.serve_client.proofs.holding.hold.Goals as goal

pub returns-in-None-clause-answer : goal.returns-in-None-clause-answer
returns-in-None-clause-answer g c = λ past before writer counted h.
    let none : Holds before c.args.reader.now None = subst (λ (o : Option (Arc Frame Global)). Holds before c.args.reader.now (text_in o))
    c.in-None.is h in
    subst (λ (r : ReaderState). OffersOn c.hold_on.result past r c.hold_on.new.reader c.args.seat.now c.hold_on.new.seat writer) none
    (c.hold_on.ensures.answer past writer counted)

pub offer_on-requires : goal.offer_on-requires
offer_on-requires g c = record { size = rw c.in-Some.is at c.requires.frame; unclosed = c.requires.can.is_unclosed }

pub hold_on-requires-in-Ok : goal.hold_on-requires-in-Ok
hold_on-requires-in-Ok g c = record {
  can = record {
    header = rw (same_chain c.args.seat.now c.offer_on.new.seat c.offer_on.ensures.tally.spec) c.requires.can.header;
    is_open = c.requires.can.is_open;
    is_unclosed = c.in-Ok.ensures.unclosed;
  };
}

pub returns-in-Ok-clause-answer : goal.returns-in-Ok-clause-answer
returns-in-Ok-clause-answer g c = λ past before writer counted h.
    let reader = c.args.reader.now in
    let some : Holds before reader (text_in (Some c.in-Some.frame)) = subst (λ (o : Option (Arc Frame Global)). Holds before reader
    (text_in o)) c.in-Some.is h in
    let first = c.in-Ok.ensures.answer past before reader writer counted some in
    OffersOn-behind before reader c.hold_on-in-Ok.new.reader c.args.seat.now c.offer_on.new.seat c.hold_on-in-Ok.new.seat writer
    first.frames first.passed past c.hold_on-in-Ok.result
    (c.hold_on-in-Ok.ensures.answer past writer (counted_later past c.args.seat.now c.offer_on.new.seat c.offer_on.ensures.tally counted))

pub returns-in-Ok-clause-has_held : goal.returns-in-Ok-clause-has_held
returns-in-Ok-clause-has_held g c =
    let kept = c.hold_on-in-Ok.ensures.has_held in
    record {
      tally = TalliesSeat-trans _ _ _ c.offer_on.ensures.tally kept.tally;
      moments = KeepsMoments-trans _ _ _ _ c.offer_on.ensures.moments kept.moments;
      stop = kept.stop;
      frame = rw (same_chain c.args.seat.now c.offer_on.new.seat c.offer_on.ensures.tally.spec) at kept.frame;
      header = kept.header;
    }

pub returns-in-Err-clause-answer : goal.returns-in-Err-clause-answer
returns-in-Err-clause-answer g c = λ past before writer counted h.
    let reader = c.args.reader.now in
    c.in-Err.ensures.answer past before reader writer counted
    (subst (λ (o : Option (Arc Frame Global)). Holds before reader (text_in o)) c.in-Some.is h)

pub returns-in-Err-clause-has_held : goal.returns-in-Err-clause-has_held
returns-in-Err-clause-has_held g c = record {
  tally = c.offer_on.ensures.tally;
  moments = c.offer_on.ensures.moments;
  stop = c.in-Err.ensures.stop;
  frame = c.in-Err.ensures.frame;
  header = refl;
}
