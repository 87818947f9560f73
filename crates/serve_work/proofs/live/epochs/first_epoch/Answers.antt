use Rattle.std.proofs.Common.{ℕ, ◌≡◌, ◌∙◌, [], ◌∷◌, ap, arith, inl, inr, length, refl, subst, sym}
use Rattle.serve_core.specs.Setup.{Setup}
use Rattle.serve_client.specs.Clients.{closes_in, offers_in}
use Rattle.serve_client.specs.Rests.{Unbegun}
use Rattle.serve_client.specs.Streams as sessions
use Rattle.serve_client.specs.Streams.{StreamValue}
use Rattle.serve_work.specs.Live.{IsNewIn, RequestValue, Waiting}
use Rattle.serve_work.specs.LiveInside.{AreSeated, Begins, HasTurn, TakesSeat}
use Rattle.serve_work.specs.SessionInside.{IsReadyAt, held_at}
use Rattle.serve_work.proofs.Living.{began, empty_seated, may_go, opens_alone, opens_for, seated_more}
use Rattle.serve_work.proofs.live.epochs.first_epoch.Goals as goal

pub tell-requires : goal.tell-requires
tell-requires g c =
    let at = c.requires.first in
    let first = at.4 in
    record {
      answer = (
        at.0,
        [],
        at.2,
        [],
        at.3,
        sym first.ticket,
        (first.given, inr refl, first.reader, first.before, first.failures_of),
      );
    }

pub new-requires : goal.new-requires
new-requires g c =
    let first = c.requires.first.4 in
    record { «open» = rw first.reader first.is_request.is_open }

pub seat-requires : goal.seat-requires
seat-requires g c =
    let first = c.requires.first.4 in
    let seat = c.in-Some.made.1 in
    let hall = c.in-Some.made.0.hall in
    let empty = c.in-Some.ensures.empty in
    let es = c.requires.first.0 in
    let w : Waiting = c.requires.first.2 in
    let request : RequestValue = w.request in
    let new = c.in-Some.ensures.seat request.spec (ap (λ (s : Setup). s.streams) first.setup) in
    let none = ap offers_in new.1.0 in
    let unclosed = ap closes_in new.1.0 in
    let terms = g.D.Chronicle.terms in
    let opens = opens_for terms request.spec c.args.stream.setup g.L.Epoch.opening first.setup first.is_setup
    c.requires.blank.opens in
    let there : IsNewIn terms request.spec g.L.Epoch.opening seat.number = inl (opens, new.2) in
    let b = began terms g.D.Chronicle.times es g.L.Epoch.opening w seat first.given first.is_request new.0 there none unclosed new.1.1 in
    let rest = sessions.Waiting (Unbegun request.reader request.before request.failures) in
    let is : _ ≡ rest = c.new.ensures ∙ rw (first.reader, first.before, first.failures_of) refl in
    record {
      places = c.in-Some.ensures.places;
      room_for_stream = omega (arith, ap length empty.0, ap length empty.2, hall.room.turns.ok.0, hall.idle.ok.0);
      tickets_fit = omega (arith, ap length empty.1, hall.tickets.ok.0);
      ready = subst (λ (v : StreamValue). IsReadyAt v seat) (sym is)
          (may_go terms g.D.Chronicle.times es g.L.Epoch.opening w rest seat b);
    }

pub epoch-requires-clause-seated : goal.epoch-requires-clause-seated
epoch-requires-clause-seated g c κs within =
    let es = c.requires.first.0 in
    let terms = g.D.Chronicle.terms in
    let times = g.D.Chronicle.times in
    let opening = g.L.Epoch.opening in
    let first = c.requires.first.4 in
    let seat = c.in-Some.made.1 in
    let hall = c.in-Some.made.0.hall in
    let empty = c.in-Some.ensures.empty in
    let w : Waiting = c.requires.first.2 in
    let request : RequestValue = w.request in
    let new = c.in-Some.ensures.seat request.spec (ap (λ (s : Setup). s.streams) first.setup) in
    let none = ap offers_in new.1.0 in
    let unclosed = ap closes_in new.1.0 in
    let opens = opens_for terms request.spec c.args.stream.setup opening first.setup first.is_setup
    c.requires.blank.opens in
    let there : IsNewIn terms request.spec opening seat.number = inl (opens, new.2) in
    let b = began terms times es opening w seat first.given first.is_request new.0 there none unclosed new.1.1 in
    let rest = sessions.Waiting (Unbegun request.reader request.before request.failures) in
    let is : c.new.result ≡ rest = c.new.ensures ∙ rw (first.reader, first.before, first.failures_of) refl in
    let held = held_at seat c.new.result in
    let turn : HasTurn terms times es opening w held =
    subst (λ (v : StreamValue). Begins terms times es opening w v seat) (sym is) b in
    let empty_hall : AreSeated terms times es opening [] hall =
    empty_seated terms times es opening hall c.in-Some.ensures.places c.requires.first.1 (opens_alone terms es request.spec opening first.one_by_one opens) empty.0 empty.1
    empty.2 (omega (arith, ap length empty.0, ap length empty.2, hall.room.turns.ok.0, hall.idle.ok.0)) in (
      es,
      w ∷ [],
      c.admitted.ensures.waits es (w ∷ []) c.requires.first.3,
      seated_more terms times es opening [] hall c.seat.new.self w held empty_hall
          (subst (λ (t : ℕ). TakesSeat t held hall c.seat.new.self) first.ticket c.seat.ensures) turn,
    )

pub admitted-requires : goal.admitted-requires
admitted-requires g c =
    let at = c.requires.first in
    let request : RequestValue = at.2.request in
    let seat = c.in-Some.made.1 in
    let terms = g.D.Chronicle.terms in
    let opens = opens_for terms request.spec c.args.stream.setup g.L.Epoch.opening at.4.setup at.4.is_setup
    c.requires.blank.opens in
    let new = c.in-Some.ensures.seat request.spec (ap (λ (s : Setup). s.streams) at.4.setup) in
    record {
      admitted = (
        at.0,
        [],
        at.2,
        [],
        at.3,
        sym at.4.ticket,
        record {
          opening = g.L.Epoch.opening;
          opens = opens_alone terms at.0 request.spec g.L.Epoch.opening at.4.one_by_one opens;
          number = seat.number;
          is_new = inl (opens, new.2, refl);
        },
      );
    }

pub epoch-requires-clause-limit : goal.epoch-requires-clause-limit
epoch-requires-clause-limit g c κs within = c.in-Some.ensures.limit ∙ c.requires.limit

pub returns-in-None-clause-answered : goal.returns-in-None-clause-answered
returns-in-None-clause-answered g c =
    let at = c.requires.first in (
      at.0,
      at.1,
      c.tell.ensures.waits_no_longer at.0 [] at.2 [] at.3 (sym at.4.ticket),
    )
