-- What an offer is to a client.
use Rattle.std.proofs.Common.{◌≡◌, ℕ, [], ◌∷◌, false, refl, ap, ◌∙◌, subst}
use Rattle.std.proofs.Common.{IsTrue, ◌≢◌, ◌⊎◌, ◌++◌, Option, inl, inr, arith, sym}
use Rattle.std.specs.declared.alloc.Global.{Global}
use Rattle.std.specs.declared.sync.Arc.{Arc}
use Rattle.std.specs.Arc.{arc_value}
use Rattle.frame_view.specs.declared.frame.Frame.{Frame}
use Rattle.filters.specs.Chain.{ChainValue}
use Rattle.filters.specs.ChainImage.{value_of}
use Rattle.y4m_stream.specs.Reader.{frame_text_of}
use Rattle.y4m_stream.specs.Writer.{IsWriterFor, WriterState}
use Rattle.serve_core.specs.declared.refusal.Refusal as core
use Rattle.serve_core.specs.declared.refusal.Refusal.TheVariants as cores
use Rattle.serve_core.specs.declared.collected.Collected.{Collected}
use Rattle.serve_hub.specs.declared.refusal.Refusal.{Refusal}
use Rattle.serve_hub.specs.declared.refusal.Refusal.TheVariants as hub
use Rattle.serve_hub.specs.declared.refusal.Came.TheVariants as came
use Rattle.serve_hub.specs.Calls.{Accepts, AcceptsOther, AllowsOffer, IsOfferTold, noted}
use Rattle.serve_hub.specs.Seats.{StreamSeatValue, collected_by}
use Rattle.serve_client.specs.declared.stop.Cause.TheVariants.{TooManyFrames}
use Rattle.serve_client.specs.declared.feeding.Offered.{Offered}
use Rattle.serve_client.specs.declared.feeding.Offered.TheVariants as offered
use Rattle.serve_client.specs.declared.stop.Cause.{Cause}
use Rattle.serve_client.specs.declared.stop.Halt.{Halt}
use Rattle.serve_client.specs.declared.stop.Halt.TheVariants.{Full, Stopped}
use Rattle.serve_client.specs.declared.stop.Stop.{Stop}
use Rattle.serve_client.specs.declared.stop.Stop.TheVariants.{Whole, Read, Write, Refused, Torn}
use Rattle.serve_client.specs.Clients.{HasOtherNumber, IsDrained}
use Rattle.serve_client.specs.ClientInside.{AcceptsTorn, GivesUp, HaltsWith, IsOfCollection, IsOffered}
use Rattle.serve_client.specs.ClientInside.{IsLeft, IsSizedFed, KeepsFrame, Moves, Refuses, StopsWith, TalliesSeat, Unfed, fed_before}
use Rattle.serve_client.specs.ClientInside.{fed_image, fed_of, image_in, stop_of}
use Rattle.serve_client.specs.Hands.{Behind}
use Rattle.serve_client.proofs.Staying.{GivesUp-torn, GivesUp-trans, stays_chain, stays_closed, stays_frames}
use Rattle.serve_client.proofs.Tallying.{TalliesSeat-accept, TalliesSeat-torn, collected_more, counted_later, other_number}
use Rattle.serve_client.proofs.Tallying.{seat_same, some_torn}
use Rattle.serve_client.proofs.Moving.{HaltsWith-later, Moves-accept, Moves-none, Moves-trans, StopsWith-later}
use Rattle.serve_client.proofs.Passing.{sized_behind}
use Rattle.serve_client.proofs.Refusing.{seat_stop}

clash : IsTrue false → ⊥
clash e = cc

same_cause : (a b : Cause) → Refused a ≡ Refused b → a ≡ b
same_cause a b e = cc

-- a frame that the seat doesn't take leaves what moved before
pub Refuses-later : (stop : Stop) (seat mid seat' : StreamSeatValue) (writer between writer' : WriterState)
    → Moves seat mid writer between []
    → GivesUp seat mid → Refuses stop mid seat' between writer' → Refuses stop seat seat' writer writer'
Refuses-later stop seat mid seat' writer between writer' a up r = record {
  of_seat = r.of_seat;
  moved = StopsWith-later stop seat mid seat' writer between writer' [] [] a r.moved;
  stays = GivesUp-trans seat mid seat' up r.stays;
  limit = λ is. r.limit is ∙ stays_frames seat mid a.seat_stays;
}

-- what a refused offer is to a client, where neither the queue nor the journal is full
offer_core : (e : core.Refusal) (frame : Frame) (at : ℕ) (seat : StreamSeatValue) → seat.is_closed ≡ false
    → frame.geometry ≡ seat.chain.geometry → AllowsOffer seat at frame.geometry e → e ≢ cores.Full
    → IsOffered (offered.Stopped (stop_of (hub.Core e))) at frame seat seat
offer_core cores.NoStream frame at seat is_open sized p not = absurd p
offer_core cores.Closed frame at seat is_open sized p not = absurd (clash (subst IsTrue is_open p))
offer_core cores.WrongSize frame at seat is_open sized p not = absurd (p sized)
offer_core cores.TooManyFrames frame at seat is_open sized p not = (λ _. p, λ is. absurd (cc), refl)
offer_core cores.Full frame at seat is_open sized p not = absurd (not refl)
offer_core cores.NoMemory frame at seat is_open sized p not = (λ is. absurd (cc), λ is. absurd (cc), refl)
offer_core cores.NoWorker frame at seat is_open sized p not = absurd p
offer_core cores.Busy frame at seat is_open sized p not = absurd p
offer_core cores.NoneReady frame at seat is_open sized p not = absurd p
offer_core cores.NoLease frame at seat is_open sized p not = absurd p
offer_core cores.GrantSpent frame at seat is_open sized p not = absurd p
offer_core cores.Past frame at seat is_open sized p not = absurd p
offer_core cores.ClockEnd frame at seat is_open sized p not = (λ is. absurd (cc), λ _. p, refl)
offer_core cores.AlreadyClosed frame at seat is_open sized p not = absurd p
offer_core cores.Empty frame at seat is_open sized p not = absurd p
offer_core cores.Drained frame at seat is_open sized p not = absurd p
offer_core cores.TooManyStreams frame at seat is_open sized p not = absurd p
offer_core cores.BadLimits frame at seat is_open sized p not = absurd p
offer_core cores.BadBandwidth frame at seat is_open sized p not = absurd p
offer_core cores.Overload frame at seat is_open sized p not = absurd p

pub offer_refused : (e : Refusal) (frame : Frame) (at : ℕ) (seat : StreamSeatValue) → seat.is_closed ≡ false
    → frame.geometry ≡ seat.chain.geometry → IsOfferTold seat at frame.geometry e
    → e ≢ hub.Core cores.Full → e ≢ hub.HistoryFull → IsOffered (offered.Stopped (stop_of e)) at frame seat (noted e seat)
offer_refused (hub.Core e) frame at seat is_open sized p not other = offer_core e frame at seat is_open sized p (λ is. not (ap hub.Core is))
offer_refused hub.HistoryFull frame at seat is_open sized p not other = absurd (other refl)
offer_refused hub.StrayLease frame at seat is_open sized p not other = absurd p
offer_refused (hub.Torn c) frame at seat is_open sized p not other = inl refl

-- an offer that was accepted with another number than the seat's next
pub offered_other : (e : Refusal) (frame : Frame) (at : ℕ) (old new : StreamSeatValue) → AcceptsOther (value_of frame) e old new
    → IsOffered (offered.Stopped Torn) at frame old new
offered_other (hub.Core e) frame at old new a = absurd a.1
offered_other hub.HistoryFull frame at old new a = absurd a.1
offered_other hub.StrayLease frame at old new a = absurd a.1
offered_other (hub.Torn (came.Number n)) frame at old new a = inr (n, a.1.0, (a.0, a.1.1, a.2))
offered_other (hub.Torn (came.Refused e)) frame at old new a = absurd a.1
offered_other (hub.Torn came.Source) frame at old new a = absurd a.1
offered_other (hub.Torn (came.Limit limit)) frame at old new a = absurd a.1
offered_other (hub.Torn (came.Chain part)) frame at old new a = absurd a.1
offered_other (hub.Torn came.NoPlace) frame at old new a = absurd a.1
offered_other (hub.Torn came.Other) frame at old new a = absurd a.1

-- an offer of the same frame, where a refusal leaves the seat so
pub offered_back : (o : Offered) (at : ℕ) (frame frame' : Frame) (old left new : StreamSeatValue) → frame' ≡ frame → new ≡ left
    → IsOffered o at frame' old left → IsOffered o at frame old new
offered_back o at frame frame' old left new same stays p = rw (stays, ← same) p

pub offered_tally : (o : Offered) (at : ℕ) (frame : Frame) (old new : StreamSeatValue) → IsOffered o at frame old new
    → TalliesSeat old new
offered_tally offered.Accepted at frame old new p = TalliesSeat-accept (value_of frame) p.0 old new p.1
offered_tally (offered.QueueFull back) at frame old new p = seat_same old new p.2
offered_tally (offered.JournalFull back) at frame old new p = seat_same old new p.2
offered_tally (offered.Stopped Whole) at frame old new p = absurd p
offered_tally (offered.Stopped (Read fault)) at frame old new p = absurd p
offered_tally (offered.Stopped (Write fault)) at frame old new p = absurd p
offered_tally (offered.Stopped (Refused cause)) at frame old new p = seat_same old new p.2
offered_tally (offered.Stopped Torn) at frame old new p = elim p [
  | inl same ↦ TalliesSeat-torn (collected_by old) old old new (seat_same old old refl) refl (omega arith) same
  | inr taken ↦
      let mid = taken.2.0 in
      let accepted = taken.2.1 in
      let tally = TalliesSeat-accept (value_of frame) taken.0 old mid accepted in
      TalliesSeat-torn (collected_by mid) old mid new tally (ap (λ (s : StreamSeatValue). s.torn) accepted.seat)
      (collected_more old mid tally.before tally.collections) taken.2.2
]

-- a frame that is accepted after others moved
pub offer_taken : (frame frame' : Frame) (n : ℕ) (seat mid seat' : StreamSeatValue) (writer between : WriterState)
    → Moves seat mid writer between []
    → frame' ≡ frame → Accepts (value_of frame') n mid seat' → Moves seat seat' writer between (frame_text_of frame ∷ [])
offer_taken frame frame' n seat mid seat' writer between a same taken =
    Moves-trans seat mid seat' writer between between [] (frame_text_of frame ∷ []) a
    (rw same at (Moves-accept mid seat' between frame' n taken))

-- the stop of an offer
pub offer_stopped : (stop : Stop) (at : ℕ) (frame : Frame) (seat mid seat' : StreamSeatValue) (writer between : WriterState)
    → Moves seat mid writer between []
    → GivesUp seat mid → TalliesSeat seat mid → IsOffered (offered.Stopped stop) at frame mid seat'
    → Refuses stop seat seat' writer between ⊎ AcceptsTorn stop (frame_text_of frame) seat seat' writer between
offer_stopped Whole at frame seat mid seat' writer between a up tally p = absurd p
offer_stopped (Read fault) at frame seat mid seat' writer between a up tally p = absurd p
offer_stopped (Write fault) at frame seat mid seat' writer between a up tally p = absurd p
offer_stopped (Refused cause) at frame seat mid seat' writer between a up tally p =
    inl (Refuses-later (Refused cause) seat mid seat' writer between between a up (record {
      of_seat = tt;
      moved = Moves-none mid seat' between between p.2 refl;
      stays = rw p.2 refl;
      limit = λ is. ap (λ (s : StreamSeatValue). s.accepted) p.2 ∙ p.0 (same_cause cause TooManyFrames is);
    }))
offer_stopped Torn at frame seat mid seat' writer between a up tally p = elim p [
  | inl stays ↦ inl (Refuses-later Torn seat mid seat' writer between between a up (record {
    of_seat = tt;
    moved = (mid, Moves-none mid mid between between refl refl, some_torn (collected_by mid) mid seat' stays);
    stays = GivesUp-torn (collected_by mid) mid mid seat' refl stays;
    limit = λ is. absurd (cc);
  }))
  | inr taken ↦ inr (record {
    torn = refl;
    other = λ past same. subst (λ (s : StreamSeatValue). HasOtherNumber (past ++ s.calls.list)) (sym taken.2.2)
        (other_number past (value_of frame) taken.0 mid taken.2.0 (counted_later past seat mid tally same) taken.1 taken.2.1);
    mid = taken.2.0;
    moved = Moves-trans seat mid taken.2.0 writer between between [] (frame_text_of frame ∷ []) a
        (Moves-accept mid taken.2.0 between frame taken.0 taken.2.1);
    noted = taken.2.2;
  })
]

-- the stop of a collection from an open seat
pub collection_stopped : (stop : Stop) (seat mid seat' : StreamSeatValue) (writer between writer' : WriterState)
    → Moves seat mid writer between []
    → GivesUp seat mid → IsOfCollection (Stopped stop) → (Stopped stop ≡ Stopped Whole → IsDrained mid × (seat' ≡ mid))
    → seat.is_closed ≡ false
    → StopsWith stop mid seat' between writer' [] → GivesUp mid seat' → Refuses stop seat seat' writer writer'
collection_stopped stop seat mid seat' writer between writer' a up own drained is_open moved stays =
    Refuses-later stop seat mid seat' writer between writer' a up (record {
      of_seat = seat_stop stop own (λ is. clash (subst IsTrue (stays_closed seat mid a.seat_stays ∙ is_open)
          (drained (ap Stopped is)).0.closed));
      moved = moved;
      stays = stays;
      limit = λ is. absurd (subst (λ s. IsOfCollection (Stopped s)) is own);
    })

-- a frame that comes back, the journal being full
pub kept_frame : (back : Arc Frame Global) (image : Option Collected) (frame : Frame) (seat mid seat' : StreamSeatValue)
    (writer between writer' : WriterState)
    → arc_value back ≡ frame → Moves seat mid writer between [] → GivesUp seat mid
    → Behind image seat' writer' (λ s w. Moves mid s between w []) → GivesUp mid seat'
    → KeepsFrame back image frame seat seat' writer writer'
kept_frame back image frame seat mid seat' writer between writer' same a up b stays = record {
  same = same;
  moved = HaltsWith-later (Full image) seat mid seat' writer between writer' [] [] a b;
  stays = GivesUp-trans seat mid seat' up stays;
}

-- no image was collected and written, and a frame is in hand
pub collection_halted : (halt : Halt) (back : Arc Frame Global) (frame : Frame) (seat mid seat' : StreamSeatValue)
    (writer between writer' : WriterState)
    → arc_value back ≡ frame → Moves seat mid writer between [] → GivesUp seat mid → IsOfCollection halt
    → (halt ≡ Stopped Whole → IsDrained mid × (seat' ≡ mid)) → seat.is_closed ≡ false → HaltsWith halt mid seat' between writer' []
    → GivesUp mid seat' → Unfed (fed_of halt back) frame seat seat' writer writer'
collection_halted (Full image) back frame seat mid seat' writer between writer' same a up own drained is_open moved stays =
    kept_frame back image frame seat mid seat' writer between writer' same a up moved stays
collection_halted (Stopped stop) back frame seat mid seat' writer between writer' same a up own drained is_open moved stays =
    inl (collection_stopped stop seat mid seat' writer between writer' a up own drained is_open moved stays)

-- the image in hand stays in hand
pub fed_image_of : (halt : Halt) (back : Arc Frame Global) → fed_image (fed_of halt back) ≡ image_in halt
fed_image_of (Full image) back = refl
fed_image_of (Stopped stop) back = refl

pub fed_image_before : (halt : Halt) → fed_image (fed_before halt) ≡ image_in halt
fed_image_before (Full image) = refl
fed_image_before (Stopped stop) = refl

-- what is in hand is of the seat's chain
pub halted_sized : (halt : Halt) (back : Arc Frame Global) (frame : Frame) (seat mid seat' : StreamSeatValue)
    (writer between writer' : WriterState)
    → arc_value back ≡ frame → Moves seat mid writer between [] → HaltsWith halt mid seat' between writer' []
    → IsLeft mid.chain writer' halt → frame.geometry ≡ seat.chain.geometry → IsWriterFor seat.chain writer
    → IsSizedFed seat.chain writer' (fed_of halt back)
halted_sized (Full image) back frame seat mid seat' writer between writer' same a b left sized size = (
  ap (λ (f : Frame). f.geometry) same ∙ sized,
  sized_behind image seat seat' writer writer' (HaltsWith-later (Full image) seat mid seat' writer between writer' [] [] a b) size,
  subst (λ (c : ChainValue). IsLeft c writer' (Full image)) (stays_chain seat mid a.seat_stays) left,
)
halted_sized (Stopped stop) back frame seat mid seat' writer between writer' same a b left sized size = tt
