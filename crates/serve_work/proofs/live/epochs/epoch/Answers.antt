use Rattle.std.proofs.Common.{ℕ, ◌≡◌, ◌≤◌, ◌++◌, ◌∷◌, ◌∙◌, List, Option, Some, ap, arith, inl, length, map, refl, subst, sym}
use Rattle.std.specs.Prelude.{All, None, replicate, reverse, vec_len}
use Rattle.std.specs.List.{AllByRecursion, Contains}
use Rattle.std.proofs.Common.{◌<◌, length-append}
use Rattle.serve_core.specs.Schedule.{ScheduleValue}
use Rattle.serve_hub.specs.Ends.{AreStreamCalls, AreStreamsOf, ClocksReached, HaveStreams, IsCharged}
use Rattle.serve_hub.specs.Seats.{HubValue, StreamRest, StreamSeatValue, left_by}
use Rattle.serve_client.specs.Workers.{HaveSpent}
use Rattle.serve_client.proofs.SpentLeases.{seats_have_spent}
use Rattle.serve_work.specs.declared.live.guests.Guest.{Guest}
use Rattle.serve_work.specs.Live.{Waiting}
use Rattle.serve_work.specs.LiveInside.{AllAt, IsGuestAt, guests_of, nobody, with_tickets}
use Rattle.serve_work.specs.SessionInside.{HeldValue}
use Rattle.serve_work.specs.History.{EpochValue, epoch_of, left_at}
use Rattle.serve_work.proofs.Left.{all_told, gone_on, kept_gone, numbers_within, one_epoch_more, rests_within, streams_gone}
use Rattle.serve_work.proofs.Living.{all_had, all_in, guests_at, has_ended, reached_at}
use Rattle.serve_work.proofs.Rests.{left_beside}
use Rattle.serve_work.proofs.SessionTurns.{same_length}
use Rattle.serve_work.proofs.live.epochs.epoch.Goals as goal

pub fill-requires : goal.fill-requires
fill-requires g c =
    let seated = c.admit_all.ensures.seated.3 in
    let ran = c.run_threads-turns.ensures.run seated.helds seated.turns in
    let few : vec_len c.run_threads-turns.result.0 ≤ 64 = omega (arith, c.run_threads-turns.ensures.count, seated.few) in
    record {
      places = record {
        no_seats = seated.places.places.no_seats;
        seats = omega (arith, few, seated.places.places.seats);
        no_streams = seated.places.places.no_streams;
        streams = omega (arith, few, seated.places.places.streams);
      };
      held = (ran.0, ran.1);
    }

pub fill_guests-requires : goal.fill_guests-requires
fill_guests-requires g c =
    let seated = c.admit_all.ensures.seated.3 in
    let ran = c.run_threads-turns.ensures.run seated.helds seated.turns in
    record {
      none = seated.places.no_guests;
      room = omega (
        arith,
        ap length (c.fill.ensures.streams ran.0 ran.1),
        same_length (λ (held : HeldValue). held.stream) ran.0,
        ap length ran.1,
        same_length Some ran.0,
        c.run_threads-turns.result.0.ok.0,
        c.run_threads-turns.ensures.count,
        c.fill.new.self.streams.ok.0,
        seated.few,
        seated.places.guests,
      );
    }

pub append_idle-requires : goal.append_idle-requires
append_idle-requires g c =
    let seated = c.admit_all.ensures.seated.3 in
    let ran = c.run_threads-turns.ensures.run seated.helds seated.turns in
    let turns : vec_len c.run_threads-turns.result.0 ≡ length ran.0 =
    omega (arith, ap length ran.1, same_length Some ran.0, c.run_threads-turns.result.0.ok.0) in
    record {
      room = omega (
        arith,
        ap length (c.fill.ensures.seats ran.0 ran.1),
        same_length (λ (held : HeldValue). held.seat) ran.0,
        turns,
        c.run_threads-turns.ensures.count,
        c.fill.new.self.seats.ok.0,
        seated.few,
        seated.places.places.seats,
        c.fill.ensures.same_room,
      );
      guests_room = omega (
        arith,
        ap length (c.fill.ensures.streams ran.0 ran.1),
        same_length (λ (held : HeldValue). held.stream) ran.0,
        turns,
        c.run_threads-turns.ensures.count,
        c.fill.new.self.streams.ok.0,
        seated.few,
        c.fill_guests.ensures.guests_within,
        c.fill_guests.ensures.same_room,
        seated.places.guests,
      );
    }

pub tickets_of-requires : goal.tickets_of-requires
tickets_of-requires g c =
    let seated = c.admit_all.ensures.seated.3 in
    let ran = c.run_threads-turns.ensures.run seated.helds seated.turns in
    let ended = c.in_ok-ended.ended in
    let end = c.in_ok-ended.ensures.end in
    let idle : List StreamSeatValue = c.admit_all.new.hall.idle.items in
    let own = c.append_idle.ensures.seats ∙ ap (λ (seats : List StreamSeatValue). seats ++ idle) (c.fill.ensures.seats ran.0 ran.1) in
    let seats = map (λ (held : HeldValue). held.seat) ran.0 ++ idle in
    let within = numbers_within ended.book.desk seats (subst (AreStreamsOf ended.book.desk) own end.agree.kept) in
    record {
      within = subst (All (λ (rest : StreamRest). rest.number < 64)) (sym (end.left ∙ ap (map left_by) own))
          (rests_within 64 seats (λ n i.
          let less = within n i in
          omega (
            arith,
            less,
            end.agree.there.0,
            ap length own,
            length-append (map (λ (held : HeldValue). held.seat) ran.0) idle,
            same_length (λ (held : HeldValue). held.seat) ran.0,
            ap length ran.1,
            same_length Some ran.0,
            c.run_threads-turns.result.0.ok.0,
            c.run_threads-turns.ensures.count,
            c.admit_all.new.hall.idle.ok.0,
            seated.few,
          )));
    }

pub epoch_ended-requires : goal.epoch_ended-requires
epoch_ended-requires g c =
    let es = c.admit_all.ensures.seated.0 in
    let ws = c.admit_all.ensures.seated.1 in
    let gives = g.K.Clock.gives c.args.setting.clock.now in
    let terms = g.D.Chronicle.terms in
    let times = g.D.Chronicle.times in
    let seated = c.admit_all.ensures.seated.3 in
    let ran = c.run_threads-turns.ensures.run seated.helds seated.turns in
    let ended = c.in_ok-ended.ended in
    let end = c.in_ok-ended.ensures.end in
    let whose : List (Option ℕ) = c.tickets_of.result in
    let desk : ScheduleValue = ended.book.desk in
    let idle : List StreamSeatValue = c.admit_all.new.hall.idle.items in
    let own = c.append_idle.ensures.seats ∙ ap (λ (seats : List StreamSeatValue). seats ++ idle) (c.fill.ensures.seats ran.0 ran.1) in
    let seats = map (λ (held : HeldValue). held.seat) ran.0 ++ idle in
    let calls = subst (AreStreamCalls (reverse ended.book.past)) own end.agree.of_streams in
    let reached = subst (ClocksReached ended.book) own end.agree.clock_reached in
    let have = subst (HaveStreams (length desk.streams)) own end.agree.each_stream in
    let kept = subst (AreStreamsOf desk) own end.agree.kept in
    let of_limit = end.agree.limit ∙ ap (λ (hub : HubValue). hub.limit) (c.into_hub-hub.ensures ∙ c.new-owner.ensures)
    ∙ c.requires.limit in
    let spent = subst (λ (n : ℕ). HaveSpent n ended.book.past) (sym end.all_workers)
    (seats_have_spent _ ended.book.past _ end.agree.of_workers end.agree.each_worker c.in_ok-ended.ensures.spent) in
    let from = reached_at _ _ end.history in
    let few : length seats ≤ 64 = omega (
      arith,
      length-append (map (λ (held : HeldValue). held.seat) ran.0) idle,
      same_length (λ (held : HeldValue). held.seat) ran.0,
      ap length ran.1,
      same_length Some ran.0,
      c.run_threads-turns.result.0.ok.0,
      c.run_threads-turns.ensures.count,
      c.admit_all.new.hall.idle.ok.0,
      seated.few,
    ) in
    let many : length seats ≡ length desk.streams = sym (ap length own) ∙ end.agree.there.0 in
    let streams = c.fill.new.self.streams.items in
    let guests = c.append_idle.ensures.guests
    ∙ ap (λ (gs : List (Option (Guest _ _))). gs ++ nobody idle) (c.fill_guests.ensures.guests
    ∙ ap (λ (tickets : List ℕ). guests_of tickets streams) seated.tickets) in
    let table : whose ≡ with_tickets (map left_by seats) (guests_of (map (λ (w : Waiting). w.ticket) ws) streams ++ nobody idle) (replicate 64 None) =
    c.tickets_of.ensures
    ∙ ap (λ (these : List StreamRest). with_tickets these c.append_idle.new.guests.items (replicate 64 None)) (end.left ∙ ap (map left_by) own)
    ∙ ap (λ (gs : List (Option (Guest _ _))). with_tickets (map left_by seats) gs (replicate 64 None)) guests in
    let lefts = subst (λ (these : List StreamRest). AllByRecursion (λ (held : HeldValue). Contains these (left_by held.seat)) ran.0)
    (sym (end.left ∙ ap (map left_by) own)) (left_beside (λ (held : HeldValue). held.seat) idle ran.0) in
    let mine = all_told _ _ _ _ desk ws streams seated.helds ran.0 idle whose table seated.each ran.2
    (c.fill.ensures.streams ran.0 ran.1) few many have kept in
    record {
      epoch = (
        es,
        ws,
        c.admit_all.ensures.seated.2,
        has_ended terms times es g.L.Epoch.opening ended.book end.is_book from end.history.same of_limit end.agree.free spent
            ended.streams whose desk (inl refl) gives c.requires.times ws seated.helds ran.0 idle seated.each ran.2 seated.idle calls reached
            have seated.opens seated.history,
        all_in terms times (epoch_of ended whose ∷ es) desk ws ran.0
            (all_had terms times es g.L.Epoch.opening ended.book end.is_book from end.history.same of_limit end.agree.free spent
            ended.streams whose desk (inl refl) gives c.requires.times ws seated.helds ran.0 idle seated.each ran.2 calls kept mine lefts),
      );
    }

pub go_to_now-now-requires : goal.go_to_now-now-requires
go_to_now-now-requires g c =
    let es = c.admit_all.ensures.seated.0 in
    let ws = c.admit_all.ensures.seated.1 in
    record {
      times = c.requires.times;
      told = (c.tickets_of.result, es, ws, c.epoch_ended.ensures.one_more es ws c.admit_all.ensures.seated.2);
    }

pub returns-clause-guests : goal.returns-clause-guests
returns-clause-guests g c =
    let es = c.admit_all.ensures.seated.0 in
    let ws = c.admit_all.ensures.seated.1 in
    let gives = g.K.Clock.gives c.args.setting.clock.now in
    let terms = g.D.Chronicle.terms in
    let times = g.D.Chronicle.times in
    let seated = c.admit_all.ensures.seated.3 in
    let ran = c.run_threads-turns.ensures.run seated.helds seated.turns in
    let ended = c.in_ok-ended.ended in
    let end = c.in_ok-ended.ensures.end in
    let whose : List (Option ℕ) = c.tickets_of.result in
    let on = c.go_to_now-now.ensures whose es ws (c.epoch_ended.ensures.one_more es ws c.admit_all.ensures.seated.2) in
    let desk : ScheduleValue = ended.book.desk in
    let gone : ScheduleValue = c.go_to_now-now.result.book.desk in
    let is_gone = gone_on times desk gone on.clock in
    let same = streams_gone desk gone is_gone in
    let idle : List StreamSeatValue = c.admit_all.new.hall.idle.items in
    let own = c.append_idle.ensures.seats ∙ ap (λ (seats : List StreamSeatValue). seats ++ idle) (c.fill.ensures.seats ran.0 ran.1) in
    let seats = map (λ (held : HeldValue). held.seat) ran.0 ++ idle in
    let calls = subst (AreStreamCalls (reverse ended.book.past)) own end.agree.of_streams in
    let reached = subst (ClocksReached ended.book) own end.agree.clock_reached in
    let have = subst (HaveStreams (length desk.streams)) own end.agree.each_stream in
    let kept = subst (AreStreamsOf desk) own end.agree.kept in
    let of_limit = end.agree.limit ∙ ap (λ (hub : HubValue). hub.limit) (c.into_hub-hub.ensures ∙ c.new-owner.ensures)
    ∙ c.requires.limit in
    let spent = subst (λ (n : ℕ). HaveSpent n ended.book.past) (sym end.all_workers)
    (seats_have_spent _ ended.book.past _ end.agree.of_workers end.agree.each_worker c.in_ok-ended.ensures.spent) in
    let from = reached_at _ _ end.history in
    let few : length seats ≤ 64 = omega (
      arith,
      length-append (map (λ (held : HeldValue). held.seat) ran.0) idle,
      same_length (λ (held : HeldValue). held.seat) ran.0,
      ap length ran.1,
      same_length Some ran.0,
      c.run_threads-turns.result.0.ok.0,
      c.run_threads-turns.ensures.count,
      c.admit_all.new.hall.idle.ok.0,
      seated.few,
    ) in
    let many : length seats ≡ length desk.streams = sym (ap length own) ∙ end.agree.there.0 in
    let streams = c.fill.new.self.streams.items in
    let guests = c.append_idle.ensures.guests
    ∙ ap (λ (gs : List (Option (Guest _ _))). gs ++ nobody idle) (c.fill_guests.ensures.guests
    ∙ ap (λ (tickets : List ℕ). guests_of tickets streams) seated.tickets) in
    let rests = end.left ∙ ap (map left_by) own in
    let table : whose ≡ with_tickets (map left_by seats) (guests_of (map (λ (w : Waiting). w.ticket) ws) streams ++ nobody idle) (replicate 64 None) =
    c.tickets_of.ensures
    ∙ ap (λ (these : List StreamRest). with_tickets these c.append_idle.new.guests.items (replicate 64 None)) rests
    ∙ ap (λ (gs : List (Option (Guest _ _))). with_tickets (map left_by seats) gs (replicate 64 None)) guests in
    let lefts = subst (λ (these : List StreamRest). AllByRecursion (λ (held : HeldValue). Contains these (left_by held.seat)) ran.0)
    (sym (end.left ∙ ap (map left_by) own)) (left_beside (λ (held : HeldValue). held.seat) idle ran.0) in
    let mine = all_told _ _ _ _ desk ws streams seated.helds ran.0 idle whose table seated.each ran.2
    (c.fill.ensures.streams ran.0 ran.1) few many have kept in
    let is = has_ended terms times es g.L.Epoch.opening ended.book end.is_book from end.history.same of_limit end.agree.free spent
    ended.streams whose gone is_gone gives c.requires.times ws seated.helds ran.0 idle seated.each ran.2 seated.idle calls reached
    have seated.opens seated.history in
    let had = all_had terms times es g.L.Epoch.opening ended.book end.is_book from end.history.same of_limit end.agree.free spent
    ended.streams whose gone is_gone gives c.requires.times ws seated.helds ran.0 idle seated.each ran.2 calls kept mine lefts in
    let epoch : EpochValue = left_at gone (epoch_of ended whose) in
    let now : List EpochValue = epoch ∷ es in (
      now,
      ws,
      on.told,
      record {
        history = one_epoch_more terms times es epoch is on.clock;
        left_here = (refl, inl refl);
        seats = seats;
        rests = on.streams ∙ rests;
        few = few;
        kept = kept_gone desk gone same seats kept;
        charges = subst (All IsCharged) (sym same) end.charges;
        of_limit = on.limit ∙ of_limit;
        each = subst (λ (gs : List (Option (Guest _ _))). AllAt (IsGuestAt terms times now gone) gs seats ws) (sym guests)
            (guests_at _ _ terms times now gone ws streams ran.0 idle had (c.fill.ensures.streams ran.0 ran.1));
      },
    )
