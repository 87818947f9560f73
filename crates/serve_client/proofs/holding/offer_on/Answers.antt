use Rattle.std.proofs.Common.{ap, ◌∙◌}
use Rattle.std.specs.Arc.{arc_value}
use Rattle.serve_hub.specs.Seats.{StreamSeatValue}
use Rattle.serve_client.proofs.Allowing.{offered_allowed}
use Rattle.serve_client.proofs.Offering.{offered_tally}
use Rattle.serve_client.proofs.OfferingOn.{offered_in_vain, offered_last, offered_well}
use Rattle.serve_client.proofs.Tallying.{offers_at}
use Rattle.serve_client.proofs.holding.offer_on.Goals as goal

pub returns-in-Accepted-clause-answer : goal.returns-in-Accepted-clause-answer
returns-in-Accepted-clause-answer g c = λ past before reader writer counted taken.
    offered_well before reader (arc_value c.args.frame) taken c.args.seat.now c.offer_once.new.seat writer
    c.moment.result c.in-Accepted.ensures.answer

pub returns-in-QueueFull-clause-answer : goal.returns-in-QueueFull-clause-answer
returns-in-QueueFull-clause-answer g c = λ past before reader writer counted taken. (
  _,
  offered_in_vain before reader (arc_value c.args.frame) taken c.args.seat.now c.offer_once.new.seat writer c.in-QueueFull.field-0.frame
      c.in-QueueFull.ensures.answer.0 c.in-QueueFull.ensures.answer.2,
)

pub returns-in-JournalFull-clause-answer : goal.returns-in-JournalFull-clause-answer
returns-in-JournalFull-clause-answer g c = λ past before reader writer counted taken.
    offered_in_vain before reader (arc_value c.args.frame) taken c.args.seat.now c.offer_once.new.seat writer c.in-JournalFull.back.frame
    c.in-JournalFull.ensures.answer.0 c.in-JournalFull.ensures.answer.2

pub returns-clause-answer : goal.returns-clause-answer
returns-clause-answer g c = λ past before reader writer counted taken.
    offered_last before reader (arc_value c.args.frame) taken c.args.seat.now c.offer_once.new.seat writer past c.in-Stopped.stop
    c.moment.result counted c.in-Stopped.ensures.answer

pub returns-clause-stop : goal.returns-clause-stop
returns-clause-stop g c =
    offered_allowed (g.K.Clock.gives c.args.post.clock.now) c.in-Stopped.stop c.moment.result _ _ _ c.moment.ensures c.in-Stopped.ensures.answer

pub returns-in-Accepted-clause-moments : goal.returns-in-Accepted-clause-moments
returns-in-Accepted-clause-moments g c =
    offers_at (g.K.Clock.gives c.args.post.clock.now) c.moment.result _ _ c.moment.ensures c.offer_once.ensures.moment

pub returns-in-QueueFull-clause-moments : goal.returns-in-QueueFull-clause-moments
returns-in-QueueFull-clause-moments g c =
    offers_at (g.K.Clock.gives c.args.post.clock.now) c.moment.result _ _ c.moment.ensures c.offer_once.ensures.moment

pub returns-in-JournalFull-clause-moments : goal.returns-in-JournalFull-clause-moments
returns-in-JournalFull-clause-moments g c =
    offers_at (g.K.Clock.gives c.args.post.clock.now) c.moment.result _ _ c.moment.ensures c.offer_once.ensures.moment

pub returns-clause-moments : goal.returns-clause-moments
returns-clause-moments g c =
    offers_at (g.K.Clock.gives c.args.post.clock.now) c.moment.result _ _ c.moment.ensures c.offer_once.ensures.moment

pub returns-in-Accepted-clause-unclosed : goal.returns-in-Accepted-clause-unclosed
returns-in-Accepted-clause-unclosed g c =
    ap (λ (s : StreamSeatValue). s.is_closed) c.in-Accepted.ensures.answer.1.seat ∙ c.requires.unclosed

pub returns-in-QueueFull-clause-tally : goal.returns-in-QueueFull-clause-tally
returns-in-QueueFull-clause-tally g c = offered_tally _ _ _ _ _ c.offer_once.ensures.answer

pub returns-in-JournalFull-clause-tally : goal.returns-in-JournalFull-clause-tally
returns-in-JournalFull-clause-tally g c = offered_tally _ _ _ _ _ c.offer_once.ensures.answer

pub returns-clause-tally : goal.returns-clause-tally
returns-clause-tally g c = offered_tally _ _ _ _ _ c.offer_once.ensures.answer
