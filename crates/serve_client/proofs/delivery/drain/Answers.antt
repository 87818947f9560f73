use Rattle.std.proofs.Common.{[], refl}
use Rattle.serve_client.proofs.Staying.{GivesUp-trans, stays_chain}
use Rattle.serve_client.proofs.Tallying.{Tallies-none, Tallies-trans}
use Rattle.serve_client.proofs.Moving.{HaltsWith-later, Moves-none, Moves-trans, few_later, none_later, size_later, writing_later}
use Rattle.serve_client.proofs.delivery.drain.Goals as goal

pub loop-init : goal.loop-init
loop-init g c = record { moved = Moves-none _ _ _ _ refl refl; up = refl; tally = Tallies-none _ _ }

pub deliver-requires : goal.deliver-requires
deliver-requires g c =
    let moved = c.loop.invariant.moved in
    record {
      can = record {
        few = few_later _ _ _ _ moved c.requires.can.few;
        writing = writing_later _ _ _ _ [] moved c.requires.can.writing;
        none = none_later _ _ _ _ [] moved c.requires.can.none;
        size = size_later _ _ _ _ [] moved c.requires.can.size;
      };
    }

pub returns-in-Err-clause-left : goal.returns-in-Err-clause-left
returns-in-Err-clause-left g c = rw (stays_chain c.args.seat.now c.loop.seat c.loop.invariant.moved.seat_stays) at c.in-Err.ensures.left

pub loop-preserved : goal.loop-preserved
loop-preserved g c =
    let so_far = c.loop.invariant in
    record {
      moved = Moves-trans _ _ _ _ _ _ [] [] so_far.moved c.in-Ok.ensures.answer;
      up = GivesUp-trans c.args.seat.now c.loop.seat c.deliver.new.seat so_far.up c.deliver.ensures.stays;
      tally = Tallies-trans _ _ _ _ _ _ so_far.moved.seat_stays.torn so_far.tally c.in-Ok.ensures.tally;
    }

pub loop-preserved-in-Ok : goal.loop-preserved-in-Ok
loop-preserved-in-Ok g c =
    let so_far = c.loop.invariant in
    record {
      moved = Moves-trans _ _ _ _ _ _ [] [] so_far.moved c.in-Ok.ensures.answer;
      up = GivesUp-trans c.args.seat.now c.loop.seat c.deliver.new.seat so_far.up c.deliver.ensures.stays;
      tally = Tallies-trans _ _ _ _ _ _ so_far.moved.seat_stays.torn so_far.tally c.in-Ok.ensures.tally;
    }

pub returns-in-Err-clause-answer : goal.returns-in-Err-clause-answer
returns-in-Err-clause-answer g c = HaltsWith-later _ _ _ _ _ _ _ [] [] c.loop.invariant.moved c.in-Err.ensures.answer

pub returns-in-Err-clause-drained : goal.returns-in-Err-clause-drained
returns-in-Err-clause-drained g c = λ is. let left = c.in-Err.ensures.drained is in rw left.1 left.0

pub returns-in-Err-clause-tally : goal.returns-in-Err-clause-tally
returns-in-Err-clause-tally g c =
    Tallies-trans _ _ _ _ _ _ c.loop.invariant.moved.seat_stays.torn c.loop.invariant.tally c.in-Err.ensures.tally

pub returns-in-Err-clause-stays : goal.returns-in-Err-clause-stays
returns-in-Err-clause-stays g c = GivesUp-trans c.args.seat.now c.loop.seat c.deliver.new.seat c.loop.invariant.up c.deliver.ensures.stays
