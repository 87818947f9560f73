use Rattle.std.proofs.Common.{◌≡◌, ◌≢◌, [], arith, refl, rules}
use Rattle.std.proofs.lemmas.Grind.{common_steps}
use Rattle.serve_core.specs.declared.refusal.Refusal.TheVariants as cores
use Rattle.serve_hub.specs.declared.refusal.Refusal.TheVariants as hub
use Rattle.serve_client.proofs.Finishing.{begun_now, can_put_on, left_halt, tally_finish, writing_delivers}
use Rattle.serve_client.proofs.Tallying.{Tallies-seat}
use Rattle.serve_client.proofs.Moving.{HaltsWith-later, Moves-kept, Moves-none, Moves-trans}
use Rattle.serve_client.proofs.Refusing.{collect_refused, collected, none_there, of_delivery, refused_left, refused_tally}
use Rattle.serve_client.proofs.delivery.deliver_early.Goals as goal

pub finish-requires : goal.finish-requires
finish-requires g c =
    let can = c.requires.can in
    can_put_on c.in-Ok.pair c.args.seat.now c.collect_early.new.seat c.args.writer.now c.in-Ok.ensures.given can.size can.few can.none

pub returns-in-Ok-finish-clause-answer : goal.returns-in-Ok-finish-clause-answer
returns-in-Ok-finish-clause-answer g c =
    let given = c.in-Ok.ensures.given in
    Moves-trans _ _ _ _ _ _ [] [] (Moves-kept _ _ c.args.writer.now c.in-Ok.pair given)
    (c.in-Ok-finish.ensures.answer c.collect_early.new.seat c.args.writer.now
    (begun_now c.in-Ok.pair c.args.seat.now c.collect_early.new.seat c.args.writer.now given c.requires.can.writing c.requires.can.none))

pub returns-in-Ok-finish-clause-pair : goal.returns-in-Ok-finish-clause-pair
returns-in-Ok-finish-clause-pair g c =
    rw c.in-Ok-finish.ensures.returns_pair (record { source = c.in-Ok.ensures.given.source; image = c.in-Ok.ensures.given.size })

pub returns-in-Ok-finish-clause-tally : goal.returns-in-Ok-finish-clause-tally
returns-in-Ok-finish-clause-tally g c =
    tally_finish c.in-Ok.pair _ _ _ _ c.in-Ok.ensures.given.collects c.in-Ok-finish.ensures.count

pub returns-in-Ok-clause-answer : goal.returns-in-Ok-clause-answer
returns-in-Ok-clause-answer g c =
    let given = c.in-Ok.ensures.given in
    HaltsWith-later c.in-Err-finish.halt _ _ _ _ _ _ [] [] (Moves-kept _ _ c.args.writer.now c.in-Ok.pair given)
    (c.in-Err-finish.ensures.answer c.collect_early.new.seat c.args.writer.now
    (begun_now c.in-Ok.pair c.args.seat.now c.collect_early.new.seat c.args.writer.now given c.requires.can.writing c.requires.can.none))

pub returns-in-Ok-clause-own : goal.returns-in-Ok-clause-own
returns-in-Ok-clause-own g c = writing_delivers c.in-Err-finish.halt c.in-Err-finish.ensures.own

pub returns-in-Ok-clause-left : goal.returns-in-Ok-clause-left
returns-in-Ok-clause-left g c =
    left_halt c.in-Err-finish.halt c.in-Ok.pair c.args.seat.now c.collect_early.new.seat c.finish.new.writer c.in-Ok.ensures.given
    c.in-Err-finish.ensures.left

pub returns-in-Ok-clause-tally : goal.returns-in-Ok-clause-tally
returns-in-Ok-clause-tally g c =
    tally_finish c.in-Ok.pair _ _ _ _ c.in-Ok.ensures.given.collects c.in-Err-finish.ensures.count

pub returns-in-Core-Empty-clause-answer : goal.returns-in-Core-Empty-clause-answer
returns-in-Core-Empty-clause-answer g c =
    let is : c.in-Err.refused.refusal ≡ hub.Core cores.Empty = search rules in
    Moves-none _ _ _ _ (none_there c.in-Err.refused _ _ is c.in-Err.ensures.refused) refl

pub returns-in-Core-Empty-clause-tally : goal.returns-in-Core-Empty-clause-tally
returns-in-Core-Empty-clause-tally g c =
    Tallies-seat _ _ _ _ (collected _ _ _ c.collect_early.ensures.given c.collect_early.ensures.refused).tally refl

pub returns-clause-answer : goal.returns-clause-answer
returns-clause-answer g c =
    let not : c.in-Err.refused.refusal ≢ hub.Core cores.Empty = grind (arith, common_steps) in
    rw c.of.ensures (collect_refused _ _ _ _ not c.in-Err.ensures.refused).moved

pub returns-clause-own : goal.returns-clause-own
returns-clause-own g c =
    let not : c.in-Err.refused.refusal ≢ hub.Core cores.Empty = λ is. search rules in
    rw c.of.ensures (of_delivery _ c.args.seat.now c.collect_early.new.seat c.args.writer.now
    (collect_refused _ _ _ _ not c.in-Err.ensures.refused) c.requires.open)

pub returns-clause-left : goal.returns-clause-left
returns-clause-left g c = rw c.of.ensures (refused_left c.in-Err.refused.refusal _ _)

pub returns-clause-tally : goal.returns-clause-tally
returns-clause-tally g c =
    rw c.of.ensures (refused_tally c.in-Err.refused.refusal _ _ _
    (collected _ _ _ c.collect_early.ensures.given c.collect_early.ensures.refused).tally)
