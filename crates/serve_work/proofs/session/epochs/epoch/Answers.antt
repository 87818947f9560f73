use Rattle.std.proofs.Common.{◌≤◌, ◌∙◌, [], ◌∷◌, Some, ap, arith, length, map, refl, subst}
use Rattle.std.specs.Prelude.{IsFalse, IsTrue, vec_len}
use Rattle.serve_hub.specs.Ends.{AreStreamsOf}
use Rattle.serve_hub.specs.Seats.{left_by}
use Rattle.serve_work.specs.History.{epoch_of, journal_of}
use Rattle.serve_work.specs.Sessions.{IsFull}
use Rattle.serve_work.specs.SessionInside.{held_with}
use Rattle.serve_work.proofs.Intervals.{all_ready, held_length, held_new}
use Rattle.serve_work.proofs.Journals.{is_full, one_in_turn}
use Rattle.serve_work.proofs.SessionStops.{go_on_allowed}
use Rattle.serve_work.proofs.SessionTurns.{all_went, same_length, stand_on}
use Rattle.serve_work.proofs.Told.{calls_are, led, may_tell, one_told, opened_in_turn}
use Rattle.serve_work.proofs.session.epochs.epoch.Goals as goal

pub pair_with_seats-turns-requires : goal.pair_with_seats-turns-requires
pair_with_seats-turns-requires g c =
    let helds = held_with c.args.opening.opened.1.items c.args.opening.streams.items in
    record {
      none = c.requires.can_begin.2.can.room.no_turns;
      room = c.requires.can_begin.2.can.room.turns;
      ready = all_ready (journal_of c.requires.can_begin.1) c.requires.can_begin.0.starts helds c.requires.can_begin.2.can.stand
          c.requires.can_begin.2.can.begun.sized;
    }

pub fill-requires-2 : goal.fill-requires-2
fill-requires-2 g c =
    let seats = c.args.opening.opened.1.items in
    let streams = c.args.opening.streams in
    let helds = held_with seats streams.items in
    let ran = c.in-Ok.ensures.run helds c.pair_with_seats-turns.ensures in
    let few : vec_len c.in-Ok.turns ≤ vec_len streams = omega (
      arith,
      c.in-Ok.ensures.count,
      c.pair_with_seats-turns.result.ok.0,
      ap length c.pair_with_seats-turns.ensures,
      same_length Some helds,
      held_length seats streams.items,
      streams.ok.0,
    ) in
    record {
      places = record {
        no_seats = c.requires.can_begin.2.can.room.places.no_seats;
        seats = omega (arith, few, c.requires.can_begin.2.can.room.places.seats);
        no_streams = c.requires.can_begin.2.can.room.places.no_streams;
        streams = omega (arith, few, c.requires.can_begin.2.can.room.places.streams);
      };
      held = (ran.0, ran.1);
    }

pub fill-requires : goal.fill-requires
fill-requires g c =
    let seats = c.args.opening.opened.1.items in
    let streams = c.args.opening.streams in
    let helds = held_with seats streams.items in
    let few : vec_len c.in-Err.turns ≤ vec_len streams = omega (
      arith,
      c.in-Err.ensures.all_back,
      c.pair_with_seats-turns.result.ok.0,
      ap length c.pair_with_seats-turns.ensures,
      same_length Some helds,
      held_length seats streams.items,
      streams.ok.0,
    ) in
    record {
      places = record {
        no_seats = c.requires.can_begin.2.can.room.places.no_seats;
        seats = omega (arith, few, c.requires.can_begin.2.can.room.places.seats);
        no_streams = c.requires.can_begin.2.can.room.places.no_streams;
        streams = omega (arith, few, c.requires.can_begin.2.can.room.places.streams);
      };
      held = (helds, c.in-Err.ensures.returns_turns ∙ c.pair_with_seats-turns.ensures);
    }

pub returns-in-Err-clause-unended : goal.returns-in-Err-clause-unended
returns-in-Err-clause-unended g c =
    let helds = held_with c.args.opening.opened.1.items c.args.opening.streams.items in
    (c.in-Err.ensures.needed refl, c.fill.ensures.streams helds (c.in-Err.ensures.returns_turns ∙ c.pair_with_seats-turns.ensures))

pub epoch_ended-requires : goal.epoch_ended-requires
epoch_ended-requires g c =
    let gives = g.K.Clock.gives c.args.setting.clock.now in
    let seats = c.args.opening.opened.1.items in
    let streams = c.args.opening.streams in
    let helds = held_with seats streams.items in
    let ran = c.in-Ok.ensures.run helds c.pair_with_seats-turns.ensures in
    let b = c.requires.can_begin.0 in
    let es = c.requires.can_begin.1 in
    let at = c.requires.can_begin.2 in
    record {
      epoch = (
        es,
        [],
        at.told.told,
        may_tell gives g.C.Chronicle.terms b es g.L.Epoch.opening c.args.opening.opened.0 helds ran.0 _ _ c.in-Ok-finish.ended
            c.in-Ok-finish.ensures.end (c.fill-2.ensures.seats ran.0 ran.1) ran.2
            (c.have_spent.ensures c.if-not-have_spent.false) at.can.begun at.can.past at.can.stand
            (held_new seats streams.items at.can.no_calls) at.can.limit at.told.by_terms (g.C.Chronicle.stands c.args.chronicle.now)
            g.C.Chronicle.times c.requires.times at.told at.can.opens,
        tt,
      );
    }

pub returns-clause-later : goal.returns-clause-later
returns-clause-later g c =
    let gives = g.K.Clock.gives c.args.setting.clock.now in
    let terms = g.C.Chronicle.terms in
    let from = g.L.Epoch.opening in
    let hub = c.args.opening.opened.0 in
    let seats = c.args.opening.opened.1.items in
    let streams = c.args.opening.streams in
    let helds = held_with seats streams.items in
    let ran = c.in-Ok.ensures.run helds c.pair_with_seats-turns.ensures in
    let ended = c.in-Ok-finish.ended in
    let end = c.in-Ok-finish.ensures.end in
    let own = c.fill-2.ensures.seats ran.0 ran.1 in
    let spent = c.have_spent.ensures c.if-not-have_spent.false in
    let cut = c.in-Ok-is_cut.ensures in
    record {
      between = λ b es at.
          let can = at.can in
          let none = held_new seats streams.items can.no_calls in
          let by = at.told.by_terms in
          let calls = calls_are gives terms b es from hub helds ran.0 _ _ ended end own ran.2 spent can.begun can.past can.stand none
          can.limit by in
          let opens = opened_in_turn gives terms b es from hub helds ran.0 _ _ ended end own ran.2 spent can.begun can.past can.stand none
          can.limit by can.opens in
          let hub_limit = end.agree.limit ∙ can.limit in
          let full : IsFalse c.in-Ok-is_cut.is_cut → IsTrue c.any_waits-waits.result → IsFull b.limit (epoch_of ended []) =
          λ goes_on waits. is_full b.limit ended.book end.is_book hub_limit end.agree.free (cut.full goes_on waits) in (
            epoch_of ended [] ∷ es,
            one_told gives terms b es from hub helds ran.0 _ _ ended end own ran.2 spent can.begun can.past can.stand none can.limit by
                _ _ at.told can.opens (c.epoch_ended.ensures.one_more es [] at.told.told),
            record {
              begun = can.begun;
              before = es;
              latest = refl;
              in_turn = one_in_turn b.limit b.schedule c.any_waits-waits.result c.in-Ok-is_cut.is_cut c.args.is_first (epoch_of ended [])
                  es opens at.later cut.empty cut.later full;
              next = λ goes_on waits. (refl, full goes_on waits, opens);
              past = led gives terms b es from hub helds ran.0 _ _ ended end own ran.2 spent can.begun can.past can.stand none can.limit
                  by;
              helds = ran.0;
              stand = stand_on gives (journal_of es) ended.book.past b.starts helds ran.0 can.stand ran.2 calls;
              streams = c.fill-2.ensures.streams ran.0 ran.1;
              seats = end.left ∙ ap (map left_by) own;
              kept = subst (AreStreamsOf ended.book.desk) own end.agree.kept;
              charges = end.charges;
              limit = hub_limit;
              untold = can.untold;
              places = omega (arith, all_went gives helds ran.0 ran.2, held_length seats streams.items, streams.ok.0, can.places);
              over = c.any_waits-waits.ensures.over;
            },
          );
      stops = go_on_allowed gives seats streams.items c.fill-2.new.self.streams.items ran.0 ran.2 (c.fill-2.ensures.streams ran.0 ran.1);
    }
