use Rattle.std.proofs.Common.{◌++◌, [], ◌∷◌, Some, append-nil, ap, arith, inl, inr, length, refl, subst, sym}
use Rattle.serve_client.specs.Rests.{Unbegun}
use Rattle.serve_client.specs.Streams as sessions
use Rattle.serve_client.specs.Streams.{StreamValue}
use Rattle.serve_work.specs.Live.{IsRequest, Waiting, waiting_of}
use Rattle.serve_work.specs.LiveInside.{Begins, HasTurn}
use Rattle.serve_work.specs.SessionInside.{IsReadyAt, held_at}
use Rattle.serve_work.proofs.Living.{admitted, began, may_go, seated_more}
use Rattle.serve_work.proofs.SessionTurns.{same_length, zip_length}
use Rattle.serve_work.proofs.live.admission.admit.Goals as goal

pub tell-requires : goal.tell-requires
tell-requires g c =
    let w : Waiting = waiting_of g.W.Sink.contents g.W.Sink.failures (length c.requires.seated.0) c.args.request in
    let at = c.requires.seated in
    record { answer = (at.0, at.1, w, [], at.2, refl, (refl, inl tt, refl, refl, refl)) }

pub returns-then-len-ge-MOST_STREAMS : goal.returns-then-len-ge-MOST_STREAMS
returns-then-len-ge-MOST_STREAMS g c =
    let w : Waiting = waiting_of g.W.Sink.contents g.W.Sink.failures (length c.requires.seated.0) c.args.request in
    let at = c.requires.seated in
    record {
      seated = (
        at.0,
        at.1,
        subst (g.D.Chronicle.stands c.tell.new.self at.0) (append-nil at.1) (c.tell.ensures.waits_no_longer at.0 at.1 w [] at.2 refl),
        at.3,
      );
    }

pub seat-requires-clause-tickets_fit : goal.seat-requires-clause-tickets_fit
seat-requires-clause-tickets_fit g c =
    let hall = c.args.hall.now in
    let at = c.requires.seated in
    omega (
      arith,
      zip_length (HasTurn g.D.Chronicle.terms g.D.Chronicle.times at.0 g.L.Epoch.opening) at.1 at.3.helds at.3.each,
      ap length at.3.tickets,
      same_length (λ (w : Waiting). w.ticket) at.1,
      ap length at.3.turns,
      same_length Some at.3.helds,
      hall.tickets.ok.0,
      hall.room.turns.ok.0,
    )

pub seat-requires-clause-ready : goal.seat-requires-clause-ready
seat-requires-clause-ready g c =
    let seat = c.in-Ok.seat in
    let w : Waiting = waiting_of g.W.Sink.contents g.W.Sink.failures (length c.requires.seated.0) c.args.request in
    let is : IsRequest w.request = record { header = c.requires.input.header; is_open = c.requires.input.is_open } in
    let a = admitted c.args.request.spec seat c.in-Ok.ensures.sized c.in-Ok.ensures.seat in
    let es = c.requires.seated.0 in
    let b = began g.D.Chronicle.terms g.D.Chronicle.times es g.L.Epoch.opening w seat refl is a.0 (inr c.in-Ok.ensures.behind) a.1 a.2 a.3 in
    subst (λ (v : StreamValue). IsReadyAt v seat) (sym c.new.ensures)
    (may_go g.D.Chronicle.terms g.D.Chronicle.times es g.L.Epoch.opening w
    (sessions.Waiting (Unbegun w.request.reader w.request.before w.request.failures)) seat b)

pub admitted-requires : goal.admitted-requires
admitted-requires g c =
    let w : Waiting = waiting_of g.W.Sink.contents g.W.Sink.failures (length c.requires.seated.0) c.args.request in
    let at = c.requires.seated in
    record {
      admitted = (
        at.0,
        at.1,
        w,
        [],
        at.2,
        refl,
        record {
          opening = g.L.Epoch.opening;
          opens = at.3.opens;
          number = c.in-Ok.seat.number;
          is_new = inr c.in-Ok.ensures.behind;
        },
      );
    }

pub tell-requires-in-Err : goal.tell-requires-in-Err
tell-requires-in-Err g c =
    let w : Waiting = waiting_of g.W.Sink.contents g.W.Sink.failures (length c.requires.seated.0) c.args.request in
    let at = c.requires.seated in
    record { answer = (at.0, at.1, w, [], at.2, refl, (refl, c.in-Err.ensures.refused, refl, refl, refl)) }

pub returns-in-Ok : goal.returns-in-Ok
returns-in-Ok g c =
    let seat = c.in-Ok.seat in
    let w : Waiting = waiting_of g.W.Sink.contents g.W.Sink.failures (length c.requires.seated.0) c.args.request in
    let is : IsRequest w.request = record { header = c.requires.input.header; is_open = c.requires.input.is_open } in
    let a = admitted c.args.request.spec seat c.in-Ok.ensures.sized c.in-Ok.ensures.seat in
    let es = c.requires.seated.0 in
    let b = began g.D.Chronicle.terms g.D.Chronicle.times es g.L.Epoch.opening w seat refl is a.0 (inr c.in-Ok.ensures.behind) a.1 a.2 a.3 in
    let held = held_at seat c.new.result in
    let turn : HasTurn g.D.Chronicle.terms g.D.Chronicle.times es g.L.Epoch.opening w held =
    subst (λ (v : StreamValue). Begins g.D.Chronicle.terms g.D.Chronicle.times es g.L.Epoch.opening w v seat) (sym c.new.ensures) b in
    let at = c.requires.seated in
    record {
      seated = (
        es,
        at.1 ++ w ∷ [],
        c.admitted.ensures.waits es (at.1 ++ w ∷ []) at.2,
        seated_more g.D.Chronicle.terms g.D.Chronicle.times es g.L.Epoch.opening at.1 c.args.hall.now c.seat.new.self w held at.3
            c.seat.ensures turn,
      );
    }

pub returns-in-Err : goal.returns-in-Err
returns-in-Err g c =
    let w : Waiting = waiting_of g.W.Sink.contents g.W.Sink.failures (length c.requires.seated.0) c.args.request in
    let at = c.requires.seated in
    record {
      seated = (
        at.0,
        at.1,
        subst (g.D.Chronicle.stands c.tell-in-Err.new.self at.0) (append-nil at.1)
            (c.tell-in-Err.ensures.waits_no_longer at.0 at.1 w [] at.2 refl),
        at.3,
      );
    }
