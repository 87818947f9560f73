-- What a refused collection is to a client.
use Rattle.std.proofs.Common.{◌≡◌, [], refl, sym, ap, ◌∙◌}
use Rattle.std.proofs.Common.{Option, None, Some, MatchOption, ◌≢◌, IsTrue, false, subst}
use Rattle.std.proofs.Common.{IfOk, IfErr, IsSome, Ok, Err, Result, arith}
use Rattle.filters.specs.Chain.{ChainValue}
use Rattle.y4m_stream.specs.Writer.{WriterState}
use Rattle.serve_core.specs.declared.collected.Collected.{Collected}
use Rattle.serve_core.specs.declared.refusal.Refusal as core
use Rattle.serve_core.specs.declared.refusal.Refusal.TheVariants as cores
use Rattle.serve_hub.specs.declared.refusal.Refusal.{Refusal}
use Rattle.serve_hub.specs.declared.refusal.Came.TheVariants as came
use Rattle.serve_hub.specs.declared.refusal.Refusal.TheVariants as hub
use Rattle.serve_hub.specs.declared.refused.CollectRefused.{CollectRefused}
use Rattle.serve_hub.specs.Calls.{AllowsCollect, Collects, Gives, GivesOther, IsCollectRefused, IsCollectTold, after_refusal, gives_up}
use Rattle.serve_hub.specs.Seats.{StreamSeatValue, collected_by}
use Rattle.serve_client.specs.declared.stop.Halt.{Halt}
use Rattle.serve_client.specs.declared.stop.Halt.TheVariants.{Full, Stopped}
use Rattle.serve_client.specs.declared.stop.Stop.{Stop}
use Rattle.serve_client.specs.declared.stop.Stop.TheVariants.{Whole, Read, Write, Refused, Torn}
use Rattle.serve_client.specs.Clients.{IsDrained}
use Rattle.serve_client.specs.ClientInside.{GivesUp, HaltsWith, IsOfCollection, IsOfDelivery, IsOfSeat, IsUseful}
use Rattle.serve_client.specs.ClientInside.{IsLeft, Tallies, TalliesSeat, halt_of, image_in, stop_of}
use Rattle.serve_client.specs.Hands.{counted_with}
use Rattle.serve_client.proofs.Staying.{GivesUp-torn}
use Rattle.serve_client.proofs.Tallying.{Collects-up, Tallies-seat, TalliesSeat-collect, TalliesSeat-same, TalliesSeat-torn, seat_same}
use Rattle.serve_client.proofs.Tallying.{some_torn}
use Rattle.serve_client.proofs.Moving.{Moves-none}

-- what a refused collection is to a client
pub record IsRefusedAs (halt : Halt) (old new : StreamSeatValue) (writer : WriterState) : Type 0 where
  pub moved : HaltsWith halt old new writer writer []
  pub drained : halt ≡ Stopped Whole → IsDrained old × (new ≡ old)
  pub own : IsOfCollection halt

nothing_torn : (old new : StreamSeatValue) (writer : WriterState) → IsSome new.torn → IsRefusedAs (Stopped Torn) old new writer
nothing_torn old new writer torn = record {
  moved = (old, Moves-none old old writer writer refl refl, torn);
  drained = λ is. absurd (cc);
  own = tt;
}

refused_core : (e : core.Refusal) (old new : StreamSeatValue) (writer : WriterState) → e ≢ cores.Empty → AllowsCollect old e → new ≡ old
    → IsRefusedAs (Stopped (stop_of (hub.Core e))) old new writer
refused_core cores.NoStream old new writer not p same = absurd p
refused_core cores.Closed old new writer not p same = absurd p
refused_core cores.WrongSize old new writer not p same = absurd p
refused_core cores.TooManyFrames old new writer not p same = absurd p
refused_core cores.Full old new writer not p same = absurd p
refused_core cores.NoMemory old new writer not p same = absurd p
refused_core cores.NoWorker old new writer not p same = absurd p
refused_core cores.Busy old new writer not p same = absurd p
refused_core cores.NoneReady old new writer not p same = absurd p
refused_core cores.NoLease old new writer not p same = absurd p
refused_core cores.GrantSpent old new writer not p same = absurd p
refused_core cores.Past old new writer not p same = absurd p
refused_core cores.ClockEnd old new writer not p same = absurd p
refused_core cores.AlreadyClosed old new writer not p same = absurd p
refused_core cores.TooManyStreams old new writer not p same = absurd p
refused_core cores.BadLimits old new writer not p same = absurd p
refused_core cores.BadBandwidth old new writer not p same = absurd p
refused_core cores.Overload old new writer not p same = absurd p
refused_core cores.Empty old new writer not p same = absurd (not refl)
refused_core cores.Drained old new writer not p same = record {
  moved = Moves-none old new writer writer same refl;
  drained = λ _. (record { closed = p.0; none = p.1 }, same);
  own = tt;
}

refused_as : (e : Refusal) (old new : StreamSeatValue) (writer : WriterState) → e ≢ hub.Core cores.Empty → IsCollectTold old e
    → new ≡ after_refusal e old → IsRefusedAs (halt_of e) old new writer
refused_as (hub.Core e) old new writer not p same = refused_core e old new writer (λ is. not (ap hub.Core is)) p same
refused_as hub.HistoryFull old new writer not p same = record {
  moved = Moves-none old new writer writer same refl;
  drained = λ is. absurd (cc);
  own = tt;
}
refused_as hub.StrayLease old new writer not p same = absurd p
refused_as (hub.Torn c) old new writer not p same =
    nothing_torn old new writer (some_torn (collected_by old) (gives_up old) new same)

refused_pair : (o : Option Collected) (e : CollectRefused) (old new : StreamSeatValue) (writer : WriterState)
    → e.refusal ≢ hub.Core cores.Empty
    → MatchOption o (IsCollectTold old e.refusal × (new ≡ after_refusal e.refusal old)) (λ pair. GivesOther pair e old new)
    → IsRefusedAs (halt_of e.refusal) old new writer
refused_pair None e old new writer not m = refused_as e.refusal old new writer not m.0 m.1
refused_pair (Some pair) e old new writer not m =
    rw m.other.2 (nothing_torn old new writer (some_torn (collected_by old) m.mid new m.noted))

pub collect_refused : (e : CollectRefused) (old new : StreamSeatValue) (writer : WriterState) → e.refusal ≢ hub.Core cores.Empty
    → IsCollectRefused e old new → IsRefusedAs (halt_of e.refusal) old new writer
collect_refused e old new writer not m = refused_pair e.pair e old new writer not m

-- no image is in hand
pub refused_image : (e : Refusal) → image_in (halt_of e) ≡ None
refused_image (hub.Core e) = refl
refused_image hub.HistoryFull = refl
refused_image hub.StrayLease = refl
refused_image (hub.Torn c) = refl

pub refused_left : (e : Refusal) (chain : ChainValue) (writer : WriterState) → IsLeft chain writer (halt_of e)
refused_left (hub.Core e) chain writer = tt
refused_left hub.HistoryFull chain writer = tt
refused_left hub.StrayLease chain writer = tt
refused_left (hub.Torn c) chain writer = tt

pub refused_tally : (e : Refusal) (old new : StreamSeatValue) (writer : WriterState) → TalliesSeat old new
    → Tallies old new writer (counted_with (image_in (halt_of e)) writer)
refused_tally e old new writer t = rw (refused_image e) (Tallies-seat old new writer writer t refl)

-- a refusal leaves all but what the seat keeps, and notes
refusal_up : (e : Refusal) (old new : StreamSeatValue) → new ≡ after_refusal e old → GivesUp old new
refusal_up (hub.Core e) old new same = rw same refl
refusal_up hub.HistoryFull old new same = rw same refl
refusal_up hub.StrayLease old new same = rw same refl
refusal_up (hub.Torn c) old new same = GivesUp-torn (collected_by old) old (gives_up old) new refl same

refusal_tally : (e : Refusal) (old new : StreamSeatValue) → new ≡ after_refusal e old → TalliesSeat old new
refusal_tally (hub.Core e) old new same = seat_same old new same
refusal_tally hub.HistoryFull old new same = seat_same old new same
refusal_tally hub.StrayLease old new same = seat_same old new same
refusal_tally (hub.Torn c) old new same =
    TalliesSeat-torn (collected_by old) old (gives_up old) new (TalliesSeat-same old (gives_up old) refl refl refl refl refl refl refl refl)
    refl (omega arith) same

-- what a collection leaves of a seat, whatever its answer
pub record IsCollected (old new : StreamSeatValue) : Type 0 where
  pub up : GivesUp old new
  pub tally : TalliesSeat old new

collected_pair : (pair : Collected) (old new : StreamSeatValue) → Collects pair old new → IsCollected old new
collected_pair pair old new c = record { up = Collects-up pair old new c; tally = TalliesSeat-collect pair old new c }

collected_none : (o : Option Collected) (e : CollectRefused) (old new : StreamSeatValue)
    → MatchOption o (IsCollectTold old e.refusal × (new ≡ after_refusal e.refusal old)) (λ pair. GivesOther pair e old new)
    → IsCollected old new
collected_none None e old new m = record { up = refusal_up e.refusal old new m.1; tally = refusal_tally e.refusal old new m.1 }
collected_none (Some pair) e old new m = record {
  up = GivesUp-torn (collected_by old) old m.mid new (Collects-up pair old m.mid m.collects) m.noted;
  tally = TalliesSeat-torn (collected_by old) old m.mid new (TalliesSeat-collect pair old m.mid m.collects)
      (ap (λ (v : StreamSeatValue). v.torn) m.collects.seat) (omega arith) m.noted;
}

pub collected : (answer : Result Collected CollectRefused) (old new : StreamSeatValue) → IfOk answer (λ pair. Gives pair old new)
    → IfErr answer (λ e. IsCollectRefused e old new) → IsCollected old new
collected (Ok pair) old new given refused = collected_pair pair old new given.collects
collected (Err e) old new given refused = collected_none e.pair e old new refused

-- a stop of a collection that isn't whole
pub seat_stop : (stop : Stop) → IsOfCollection (Stopped stop) → stop ≢ Whole → IsOfSeat stop
seat_stop Whole own not = absurd (not refl)
seat_stop (Read fault) own not = absurd own
seat_stop (Refused cause) own not = absurd own
seat_stop (Write fault) own not = tt
seat_stop Torn own not = tt

-- a stop of a collection from an open seat
spoilt_by : (stop : Stop) → IsOfCollection (Stopped stop) → stop ≢ Whole → IsUseful stop → ⊥
spoilt_by Whole own not useful = not refl
spoilt_by (Read fault) own not useful = own
spoilt_by (Refused cause) own not useful = own
spoilt_by (Write fault) own not useful = useful
spoilt_by Torn own not useful = useful

not_closed : IsTrue false → ⊥
not_closed e = cc

pub of_delivery : (halt : Halt) (old new : StreamSeatValue) (writer : WriterState) → IsRefusedAs halt old new writer
    → old.is_closed ≡ false → IsOfDelivery halt
of_delivery (Full image) old new writer r is_open = tt
of_delivery (Stopped stop) old new writer r is_open =
    spoilt_by stop r.own (λ is. not_closed (subst IsTrue is_open (r.drained (ap Stopped is)).0.closed))

-- no image is there, and the seat stays as it was
none_of : (o : Option Collected) (e : CollectRefused) (old new : StreamSeatValue) → e.refusal ≡ hub.Core cores.Empty
    → MatchOption o (IsCollectTold old e.refusal × (new ≡ after_refusal e.refusal old)) (λ pair. GivesOther pair e old new)
    → new ≡ old
none_of None e old new is m = m.1 ∙ ap (λ (r : Refusal). after_refusal r old) is
none_of (Some pair) e old new is m =
    let both : hub.Torn came.Source ≡ hub.Core cores.Empty = sym m.other.2 ∙ is in absurd (cc)

pub none_there : (e : CollectRefused) (old new : StreamSeatValue) → e.refusal ≡ hub.Core cores.Empty → IsCollectRefused e old new
    → new ≡ old
none_there e old new is m = none_of e.pair e old new is m
