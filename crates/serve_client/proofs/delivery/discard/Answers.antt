use Rattle.std.proofs.Common.{arith, refl}
use Rattle.std.proofs.lemmas.List.{nil_from_length}
use Rattle.serve_client.proofs.Staying.{GivesUp-trans}
use Rattle.serve_client.proofs.Tallying.{TalliesSeat-trans, seat_same}
use Rattle.serve_client.proofs.Refusing.{collected}
use Rattle.serve_client.proofs.delivery.discard.Goals as goal

pub loop-init : goal.loop-init
loop-init g c = record { up = refl; tally = seat_same _ _ refl }

pub returns-then-kept-eq0-clause-none : goal.returns-then-kept-eq0-clause-none
returns-then-kept-eq0-clause-none g c = λ _. nil_from_length _ (omega arith)

pub returns-then-kept-eq0-clause-tally : goal.returns-then-kept-eq0-clause-tally
returns-then-kept-eq0-clause-tally g c =
    TalliesSeat-trans _ _ _ c.loop.invariant.tally (collected _ _ _ c.collect.ensures.given c.collect.ensures.refused).tally

pub loop-preserved-after-collect : goal.loop-preserved-after-collect
loop-preserved-after-collect g c =
    let now = collected _ _ _ c.collect.ensures.given c.collect.ensures.refused in
    record {
      up = GivesUp-trans c.args.seat.now c.loop.seat c.collect.new.seat c.loop.invariant.up now.up;
      tally = TalliesSeat-trans _ _ _ c.loop.invariant.tally now.tally;
    }

pub loop-preserved-after-collect-2 : goal.loop-preserved-after-collect-2
loop-preserved-after-collect-2 g c =
    let now = collected _ _ _ c.collect.ensures.given c.collect.ensures.refused in
    record {
      up = GivesUp-trans c.args.seat.now c.loop.seat c.collect.new.seat c.loop.invariant.up now.up;
      tally = TalliesSeat-trans _ _ _ c.loop.invariant.tally now.tally;
    }

pub loop-preserved : goal.loop-preserved
loop-preserved g c =
    let now = collected _ _ _ c.collect.ensures.given c.collect.ensures.refused in
    record {
      up = GivesUp-trans c.args.seat.now c.loop.seat c.collect.new.seat c.loop.invariant.up now.up;
      tally = TalliesSeat-trans _ _ _ c.loop.invariant.tally now.tally;
    }
