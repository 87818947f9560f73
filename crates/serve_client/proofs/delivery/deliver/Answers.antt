use Rattle.serve_client.specs.ClientInside.{IsOfCollection, IsOfWriting}
use Rattle.serve_client.specs.Hands.{IsPairOf}
use Rattle.serve_client.proofs.Finishing.{back_is, begun_now, can_put_on, err_map, left_of, tally_finish, writing_collects}
use Rattle.serve_client.proofs.Finishing.{writing_unfinished}
use Rattle.serve_client.proofs.Moving.{Moves-kept, MovesOrHalts-later}
use Rattle.serve_client.proofs.Refusing.{collect_refused, collected, refused_left, refused_tally}
use Rattle.serve_client.proofs.delivery.deliver.Goals as goal

pub finish-requires : goal.finish-requires
finish-requires g c =
    let can = c.requires.can in
    can_put_on c.in-Ok.pair c.args.seat.now c.collect.new.seat c.args.writer.now c.in-Ok.ensures.given can.size can.few can.none

pub returns-in-Ok-clause-answer : goal.returns-in-Ok-clause-answer
returns-in-Ok-clause-answer g c =
    let given = c.in-Ok.ensures.given in
    MovesOrHalts-later c.finish.result _ _ _ _ _ _ (Moves-kept _ _ c.args.writer.now c.in-Ok.pair given)
    (c.finish.ensures.answer c.collect.new.seat c.args.writer.now
    (begun_now c.in-Ok.pair c.args.seat.now c.collect.new.seat c.args.writer.now given c.requires.can.writing c.requires.can.none))

pub returns-in-Ok-clause-pair : goal.returns-in-Ok-clause-pair
returns-in-Ok-clause-pair g c =
    back_is (IsPairOf c.args.seat.now.chain) c.finish.result c.in-Ok.pair c.finish.ensures.returns_pair
    (record { source = c.in-Ok.ensures.given.source; image = c.in-Ok.ensures.given.size })

pub returns-in-Ok-clause-drained : goal.returns-in-Ok-clause-drained
returns-in-Ok-clause-drained g c =
    err_map IsOfWriting _ c.finish.result (λ halt own. writing_unfinished _ halt own) c.finish.ensures.own

pub returns-in-Ok-clause-own : goal.returns-in-Ok-clause-own
returns-in-Ok-clause-own g c = err_map IsOfWriting IsOfCollection c.finish.result writing_collects c.finish.ensures.own

pub returns-in-Ok-clause-left : goal.returns-in-Ok-clause-left
returns-in-Ok-clause-left g c =
    left_of c.finish.result c.in-Ok.pair c.args.seat.now c.collect.new.seat c.finish.new.writer c.in-Ok.ensures.given c.finish.ensures.left

pub returns-in-Ok-clause-tally : goal.returns-in-Ok-clause-tally
returns-in-Ok-clause-tally g c =
    tally_finish c.in-Ok.pair _ _ _ _ c.in-Ok.ensures.given.collects c.finish.ensures.count

pub returns-in-Err-clause-answer : goal.returns-in-Err-clause-answer
returns-in-Err-clause-answer g c = rw c.of.ensures (collect_refused _ _ _ _ c.in-Err.ensures.waited c.in-Err.ensures.refused).moved

pub returns-in-Err-clause-left : goal.returns-in-Err-clause-left
returns-in-Err-clause-left g c = rw c.of.ensures (refused_left c.in-Err.refused.refusal _ _)

pub returns-in-Err-clause-tally : goal.returns-in-Err-clause-tally
returns-in-Err-clause-tally g c =
    rw c.of.ensures (refused_tally c.in-Err.refused.refusal _ _ _
    (collected _ _ _ c.collect.ensures.given c.collect.ensures.refused).tally)
