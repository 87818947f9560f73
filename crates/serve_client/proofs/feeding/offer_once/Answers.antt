use Rattle.std.proofs.Common.{◌≡◌, ◌∙◌, None, Some, ap, inl, inr, rules, subst, sym}
use Rattle.std.specs.Arc.{arc_value}
use Rattle.frame_view.specs.declared.frame.Frame.{Frame}
use Rattle.serve_hub.specs.Calls.{IsOfferTold}
use Rattle.serve_hub.specs.Seats.{StreamSeatValue}
use Rattle.serve_hub.proofs.Noting.{noted_calls, noted_moments, unmatched}
use Rattle.serve_hub.proofs.Refusing.{matched}
use Rattle.serve_client.proofs.Offering.{offered_back, offered_other}
use Rattle.serve_client.proofs.feeding.offer_once.Goals as goal

pub returns-in-Ok-clause-moment : goal.returns-in-Ok-clause-moment
returns-in-Ok-clause-moment g c = inr c.in-Ok.ensures.moment

pub returns-in-Err-Some-clause-answer : goal.returns-in-Err-Some-clause-answer
returns-in-Err-Some-clause-answer g c =
    let e = c.in-Err-Some in
    let some : e.field-0.offer ≡ Some e.back = search rules in
    let back = matched _ _ e.field-0.offer e.back some e.ensures.back in
    let told = subst (λ (f : Frame). IsOfferTold c.args.seat.now c.args.offer.at f.geometry e.field-0.refusal) (sym back.frame)
    back.told in
    offered_back _ _ _ _ _ _ _ back.frame back.seat
    (c.offered_of.ensures c.args.offer.at c.args.seat.now c.requires.open
    (ap (λ (f : Frame). f.geometry) back.frame ∙ c.requires.size) told back.memory.of_chain)

pub returns-in-Err-Some-clause-moment : goal.returns-in-Err-Some-clause-moment
returns-in-Err-Some-clause-moment g c =
    let e = c.in-Err-Some in
    let some : e.field-0.offer ≡ Some e.back = search rules in
    let back = matched _ _ e.field-0.offer e.back some e.ensures.back in
    inl (
      ap (λ (v : StreamSeatValue). v.calls) back.seat ∙ noted_calls e.field-0.refusal c.args.seat.now,
      ap (λ (v : StreamSeatValue). v.moments) back.seat ∙ noted_moments e.field-0.refusal c.args.seat.now,
    )

-- the frame was accepted with another number

pub returns-in-Err-None-clause-answer : goal.returns-in-Err-None-clause-answer
returns-in-Err-None-clause-answer g c =
    let e = c.in-Err-None in
    let none : e.field-0.offer ≡ None = search rules in
    let other = unmatched _ _ e.field-0.offer none e.ensures.back in
    offered_other e.field-0.refusal (arc_value c.args.offer.frame) c.args.offer.at c.args.seat.now c.offer.new.seat other.0

pub returns-in-Err-None-clause-moment : goal.returns-in-Err-None-clause-moment
returns-in-Err-None-clause-moment g c =
    let e = c.in-Err-None in
    let none : e.field-0.offer ≡ None = search rules in
    inr (unmatched _ _ e.field-0.offer none e.ensures.back).1
