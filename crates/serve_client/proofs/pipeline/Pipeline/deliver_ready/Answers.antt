use Rattle.std.proofs.Common.{◌≡◌, ◌∙◌, [], refl}
use Rattle.serve_client.specs.Hands.{IsPairOf}
use Rattle.serve_client.proofs.Staying.{GivesUp-trans, stays_chain, stays_closed}
use Rattle.serve_client.proofs.Tallying.{Tallies-none, Tallies-trans}
use Rattle.serve_client.proofs.Moving.{HaltsWith-later, Moves-none, Moves-trans, few_later, none_later, size_later, writing_later}
use Rattle.serve_client.proofs.pipeline.Pipeline.deliver_ready.Goals as goal

pub loop-init : goal.loop-init
loop-init g c = record {
  moved = Moves-none _ _ _ _ refl refl;
  up = refl;
  tally = Tallies-none _ _;
  buffers = c.requires.buffers;
  reader = refl;
}

pub deliver_early-requires : goal.deliver_early-requires
deliver_early-requires g c =
    let moved = c.loop.invariant.moved in
    record {
      can = record {
        few = few_later _ _ _ _ moved c.requires.can.few;
        writing = writing_later _ _ _ _ [] moved c.requires.can.writing;
        none = none_later _ _ _ _ [] moved c.requires.can.none;
        size = size_later _ _ _ _ [] moved c.requires.can.size;
      };
      «open» = stays_closed c.args.self.now.seat c.loop.self.seat moved.seat_stays ∙ c.requires.open;
    }

pub returns-in-Ok-None-clause-answer : goal.returns-in-Ok-None-clause-answer
returns-in-Ok-None-clause-answer g c = Moves-trans _ _ _ _ _ _ [] [] c.loop.invariant.moved c.in-Ok-None.ensures.answer

pub returns-in-Err-clause-answer : goal.returns-in-Err-clause-answer
returns-in-Err-clause-answer g c = HaltsWith-later _ _ _ _ _ _ _ [] [] c.loop.invariant.moved c.in-Err.ensures.answer

pub returns-in-Ok-None-clause-tally : goal.returns-in-Ok-None-clause-tally
returns-in-Ok-None-clause-tally g c =
    Tallies-trans _ _ _ _ _ _ c.loop.invariant.moved.seat_stays.torn c.loop.invariant.tally c.in-Ok-None.ensures.tally

pub returns-in-Err-clause-left : goal.returns-in-Err-clause-left
returns-in-Err-clause-left g c =
    rw (stays_chain c.args.self.now.seat c.loop.self.seat c.loop.invariant.moved.seat_stays) at c.in-Err.ensures.left

pub returns-in-Err-clause-tally : goal.returns-in-Err-clause-tally
returns-in-Err-clause-tally g c =
    Tallies-trans _ _ _ _ _ _ c.loop.invariant.moved.seat_stays.torn c.loop.invariant.tally c.in-Err.ensures.tally

pub loop-preserved : goal.loop-preserved
loop-preserved g c =
    let so_far = c.loop.invariant in
    let next = c.in-Ok-Some in
    let seat = c.args.self.now.seat in
    let chain : c.loop.self.seat.chain ≡ seat.chain = stays_chain seat c.loop.self.seat so_far.moved.seat_stays in
    let pair : IsPairOf c.loop.self.seat.chain next.pair = rw next.field-0-is at next.ensures.pair in
    record {
      moved = Moves-trans _ _ _ _ _ _ [] [] so_far.moved next.ensures.answer;
      up = GivesUp-trans c.args.self.now.seat c.loop.self.seat c.deliver_early.new.seat so_far.up c.deliver_early.ensures.stays;
      tally = Tallies-trans _ _ _ _ _ _ so_far.moved.seat_stays.torn so_far.tally next.ensures.tally;
      buffers = c.keep.ensures.sized c.args.self.now.seat.chain so_far.buffers (rw chain at pair.source) (rw chain at pair.image);
      reader = so_far.reader;
    }
