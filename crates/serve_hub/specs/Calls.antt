-- How the calls of a hub leave the seats, and which refusals a seat can be told.
use Rattle.std.specs.Prelude.{ℕ, ◌+◌, ◌≡◌, ◌≢◌, ◌≤◌, ◌<◌, ◌↔◌, ◌⊎◌, ⊤, true, IsTrue, List, [], ◌∷◌}
use Rattle.std.specs.Prelude.{◌++◌, drop, length, slice_get, Option, Some, IfSome, IsSome, MatchOption}
use Rattle.std.specs.Prelude.{MatchResult, Result}
use Rattle.std.specs.Arc.{arc_value}
use Rattle.cbs_account.specs.declared.limits.TheConstants.{LAST_MOMENT}
use Rattle.frame_view.specs.declared.frame.Frame.{Frame}
use Rattle.frame_view.specs.declared.geometry.Geometry.{Geometry}
use Rattle.filters.specs.declared.op.Op.{Op}
use Rattle.filters.specs.Chain.{ChainValue, Format, format_of}
use Rattle.filters.specs.ChainImage.{FrameValue, IsChainImage, value_of}
use Rattle.filters.specs.Steps.{steps_of}
use Rattle.lease.specs.Lease.{LeaseValue}
use Rattle.serve_core.specs.declared.collected.Collected.{Collected}
use Rattle.serve_core.specs.declared.refusal.Refusal as core
use Rattle.serve_core.specs.declared.refusal.Refusal.TheVariants as cores
use Rattle.serve_core.specs.Setup.{HasBandwidth, IsWithinLimits, StreamSpec}
use Rattle.serve_core.specs.Streams.{IsImageOf, source_in}
use Rattle.serve_hub.specs.declared.entry.Act.TheVariants as acts
use Rattle.serve_hub.specs.declared.entry.Settled as code
use Rattle.serve_hub.specs.declared.entry.Settled.TheVariants as settled
use Rattle.serve_hub.specs.declared.chain_part.ChainPart.{ChainPart}
use Rattle.serve_hub.specs.declared.chain_part.ChainPart.TheVariants as parts
use Rattle.serve_hub.specs.declared.offer.Offer.{Offer}
use Rattle.serve_hub.specs.declared.refusal.Came.{Came}
use Rattle.serve_hub.specs.declared.refusal.Came.TheVariants as came
use Rattle.serve_hub.specs.declared.refusal.Refusal.{Refusal}
use Rattle.serve_hub.specs.declared.refusal.Refusal.TheVariants.{Core, HistoryFull, StrayLease, Torn}
use Rattle.serve_hub.specs.declared.refused.AdmitRefused.{AdmitRefused}
use Rattle.serve_hub.specs.declared.refused.CollectRefused.{CollectRefused}
use Rattle.serve_hub.specs.declared.refused.LeaseRefused.{LeaseRefused}
use Rattle.serve_hub.specs.declared.refused.OfferRefused.{OfferRefused}
use Rattle.serve_hub.specs.Answers.{is_finished}
use Rattle.serve_hub.specs.Journal.{tick_of}
use Rattle.serve_hub.specs.Seats.{HasPlace, StreamSeatValue, WorkSeatValue, collected_by, moments_with}
use Rattle.serve_hub.specs.Seats.{no_calls, opened_rest, seat_over, torn_at, with_call}

-- a part of a chain that isn't one of these operations, or not that of this chain
abbrev pub IsOtherOp : List Op → ChainPart → Type 0
IsOtherOp ops (parts.Count n) = n ≢ length ops
IsOtherOp ops (parts.Op k op) = slice_get ops k ≢ Some op
IsOtherOp ops part = ⊥

-- a part of a list of operations, and of a chain
abbrev pub HasOp : List Op → ChainPart → Type 0
HasOp ops (parts.Count n) = n ≡ length ops
HasOp ops (parts.Op k op) = slice_get ops k ≡ Some op
HasOp ops part = ⊥

abbrev pub HasPart : ChainValue → ChainPart → Type 0
HasPart chain (parts.Format width height chroma) =
    let format : Format = record { width = width; height = height; chroma = chroma } in
    format ≡ format_of chain.geometry
HasPart chain (parts.BandRows rows) = rows ≡ chain.band_height.rows
HasPart chain part = HasOp chain.ops part

abbrev pub IsOtherPart : ChainValue → ChainPart → Type 0
IsOtherPart chain (parts.Format width height chroma) =
    let format : Format = record { width = width; height = height; chroma = chroma } in
    format ≢ format_of chain.geometry
IsOtherPart chain (parts.BandRows rows) = rows ≢ chain.band_height.rows
IsOtherPart chain part = IsOtherOp chain.ops part

-- what contradicts a seat that allows these refusals, at each of its calls
abbrev pub Contradicts : StreamSeatValue → (core.Refusal → Type 0) → Came → Type 0
Contradicts seat Allows (came.Refused e) = Allows e → ⊥
Contradicts seat Allows (came.Limit limit) = limit ≢ seat.calls.limit
Contradicts seat Allows (came.Chain part) = IsOtherPart seat.chain part
Contradicts seat Allows c = ⊥

-- a refusal as a seat is told it: one that the seat allows, or what contradicts the seat
abbrev pub IsTold : StreamSeatValue → (core.Refusal → Type 0) → Refusal → Type 0
IsTold seat Allows (Core e) = Allows e
IsTold seat Allows HistoryFull = ⊤
IsTold seat Allows StrayLease = ⊥
IsTold seat Allows (Torn c) = Contradicts seat Allows c

-- a refusal of a book to a stream
abbrev pub IsOfBook : Refusal → Type 0
IsOfBook (Core e) = ⊤
IsOfBook HistoryFull = ⊤
IsOfBook e = ⊥

-- which refusals a seat allows: of a frame of this geometry that is offered at a moment
abbrev pub AllowsOffer : StreamSeatValue → (at : ℕ) → Geometry → core.Refusal → Type 0
AllowsOffer seat at geometry cores.ClockEnd = LAST_MOMENT < at
AllowsOffer seat at geometry cores.Closed = IsTrue seat.is_closed
AllowsOffer seat at geometry cores.WrongSize = geometry ≢ seat.chain.geometry
AllowsOffer seat at geometry cores.TooManyFrames = seat.accepted ≡ seat.frames
AllowsOffer seat at geometry cores.Full = seat.queue ≤ length seat.kept
AllowsOffer seat at geometry cores.NoMemory = geometry ≡ seat.chain.geometry
AllowsOffer seat at geometry e = ⊥

-- why a frame is refused; it is also where the book would accept it and the seat has no place for it
abbrev pub IsOfferTold : StreamSeatValue → (at : ℕ) → Geometry → Refusal → Type 0
IsOfferTold seat at geometry (Torn came.NoPlace) = HasPlace seat → ⊥
IsOfferTold seat at geometry e = IsTold seat (AllowsOffer seat at geometry) e

-- of a close
abbrev pub AllowsClose : StreamSeatValue → core.Refusal → Type 0
AllowsClose seat cores.AlreadyClosed = IsTrue seat.is_closed
AllowsClose seat e = ⊥

-- of a collection
abbrev pub AllowsCollect : StreamSeatValue → core.Refusal → Type 0
AllowsCollect seat cores.Empty = ⊤
AllowsCollect seat cores.Drained = IsTrue seat.is_closed × (seat.kept ≡ [])
AllowsCollect seat e = ⊥

abbrev pub IsCloseTold : StreamSeatValue → Refusal → Type 0
IsCloseTold seat e = IsTold seat (AllowsClose seat) e

abbrev pub IsCollectTold : StreamSeatValue → Refusal → Type 0
IsCollectTold seat e = IsTold seat (AllowsCollect seat) e

-- a spec that a stream may have
abbrev pub IsSpec : StreamSpec → Type 0
IsSpec spec = IsWithinLimits spec × HasBandwidth spec

-- why a stream of this spec isn't admitted: what is wrong with the spec comes before all that isn't told by
-- it, but the number of streams
abbrev pub AllowsAdmission : StreamSpec → Refusal → Type 0
AllowsAdmission spec (Core cores.TooManyStreams) = ⊤
AllowsAdmission spec (Core cores.BadLimits) = ¬ IsWithinLimits spec
AllowsAdmission spec (Core cores.BadBandwidth) = IsWithinLimits spec × ¬ HasBandwidth spec
AllowsAdmission spec (Core cores.Overload) = IsSpec spec
AllowsAdmission spec (Core cores.NoMemory) = IsSpec spec
AllowsAdmission spec HistoryFull = IsSpec spec
AllowsAdmission spec (Torn came.Other) = ⊤
AllowsAdmission spec e = ⊥

-- the seat of a stream that was admitted, which is its only call yet
abbrev pub Admits : StreamSpec → StreamSeatValue → Type 0
Admits spec seat =
    seat ≡ record (seat_over seat.calls.limit (opened_rest seat.number spec)) {
      calls = with_call acts.Admitted (no_calls seat.calls.limit);
    }

-- why a stream isn't admitted, whose spec comes back
abbrev pub IsAdmitRefused : StreamSpec → AdmitRefused → Type 0
IsAdmitRefused spec e = (e.spec ≡ spec) × AllowsAdmission spec e.refusal

-- a frame of the seat was accepted, with this number, and is the last that the seat keeps
pub record Accepts (frame : FrameValue) (number : ℕ) (old new : StreamSeatValue) : Type 0 where
  pub tick : Option ℕ
  pub few : old.accepted < old.frames
  pub seat : new ≡ record old {
    calls = with_call (acts.Offered tick number) old.calls;
    accepted = old.accepted + 1;
    moments = new.moments;
    kept = old.kept ++ frame ∷ [];
  }

-- the seat's last call is an offer at this moment, which the clock went on to where it was earlier, and the
-- seat tells it with the first
pub record NotesFrom (clock at : ℕ) (old new : StreamSeatValue) : Type 0 where
  pub number : ℕ
  pub calls : new.calls ≡ with_call (acts.Offered (tick_of clock at) number) old.calls
  pub moments : new.moments ≡ Some (moments_with old.moments at)

-- the same, wherever the clock was
abbrev pub Notes : (at : ℕ) → (old new : StreamSeatValue) → Type 0
Notes at old new = (clock : ℕ) × NotesFrom clock at old new

-- a seat notes that it is told Torn
abbrev pub noted : Refusal → StreamSeatValue → StreamSeatValue
noted (Torn c) seat = torn_at (collected_by seat) seat
noted e seat = seat

-- an accepted frame got another number than the seat's next
abbrev pub GetsOther : FrameValue → Refusal → (old new : StreamSeatValue) → Type 0
GetsOther frame (Torn (came.Number n)) old new = (n ≢ old.accepted) × Accepts frame n old new
GetsOther frame e old new = ⊥

-- and the seat notes it
abbrev pub AcceptsOther : FrameValue → Refusal → (old new : StreamSeatValue) → Type 0
AcceptsOther frame e old new = (mid : StreamSeatValue) × GetsOther frame e old mid × (new ≡ noted e mid)

-- an offer is accepted at its moment, which isn't past the last, with the seat's next number
pub record AcceptsOffer (offer : Offer) (number : ℕ) (old new : StreamSeatValue) : Type 0 where
  pub next : number ≡ old.accepted
  pub accepts : Accepts (value_of (arc_value offer.frame)) number old new
  pub moment : Notes offer.at old new
  pub in_time : offer.at ≤ LAST_MOMENT

-- where there was memory of an image, some comes back, and what comes back is that of an image of the chain
pub record ReturnsMemory (chain : ChainValue) (memory back : Option Frame) : Type 0 where
  pub there : IsSome memory → IsSome back
  pub of_chain : IfSome back (IsImageOf chain)

-- a refused offer comes back, and the seat stays as it was, but that it notes a Torn
pub record ReturnsOffer (offer back : Offer) (e : Refusal) (old new : StreamSeatValue) : Type 0 where
  pub at : back.at ≡ offer.at
  pub frame : arc_value back.frame ≡ arc_value offer.frame
  pub memory : ReturnsMemory old.chain offer.memory back.memory
  pub told : IsOfferTold old offer.at (arc_value offer.frame).geometry e
  pub seat : new ≡ noted e old

-- a refused offer, which past the last moment is refused for that. It doesn't come back where it was accepted
-- after all, at its moment
pub record IsOfferRefused (offer : Offer) (e : OfferRefused) (old new : StreamSeatValue) : Type 0 where
  pub back : MatchOption e.offer
      (AcceptsOther (value_of (arc_value offer.frame)) e.refusal old new × Notes offer.at old new)
      (λ back. ReturnsOffer offer back e.refusal old new)
  pub late : LAST_MOMENT < offer.at → e.refusal ≡ Core cores.ClockEnd

-- the answer to an offer
abbrev pub AnswersOffer : Offer → Result ℕ OfferRefused → (old new : StreamSeatValue) → Type 0
AnswersOffer offer result old new =
    MatchResult result (λ number. AcceptsOffer offer number old new) (λ e. IsOfferRefused offer e old new)

-- the seat closed its stream
abbrev pub Closes : (old new : StreamSeatValue) → Type 0
Closes old new = new ≡ record old { calls = with_call acts.Closed old.calls; is_closed = true }

-- an image of the seat's chain was collected
pub record Collects (pair : Collected) (old new : StreamSeatValue) : Type 0 where
  pub number : ℕ
  pub image : IsChainImage old.chain.ops (source_in pair) (value_of pair.image)
  pub seat : new ≡ record old { calls = with_call (acts.Collected number) old.calls; kept = new.kept }

-- the pair's source is the oldest frame that the seat keeps
abbrev pub IsOldest : Collected → StreamSeatValue → Type 0
IsOldest pair seat = slice_get seat.kept 0 ≡ Some (source_in pair)

-- the pair is told as an image of another frame
abbrev pub IsOther : Collected → CollectRefused → StreamSeatValue → Type 0
IsOther pair e seat =
    (slice_get seat.kept 0 ≢ Some (source_in pair)) × (e.pair ≡ Some pair) × (e.refusal ≡ Torn came.Source)

-- the oldest frame that the seat keeps came, with its image
pub record Gives (pair : Collected) (old new : StreamSeatValue) : Type 0 where
  pub collects : Collects pair old new
  pub oldest : old.kept ≡ source_in pair ∷ new.kept
  pub source : (source_in pair).geometry ≡ old.chain.geometry
  pub size : IsImageOf old.chain pair.image

abbrev pub gives_up : StreamSeatValue → StreamSeatValue
gives_up seat = record seat { kept = drop 1 seat.kept }

-- a seat that is told Torn notes it, and gives its oldest frame up
abbrev pub after_refusal : Refusal → StreamSeatValue → StreamSeatValue
after_refusal (Torn c) seat = gives_up (noted (Torn c) seat)
after_refusal e seat = seat

-- an image came that isn't of the oldest frame that the seat keeps, which the seat gives up; it notes that
-- with how many came before
pub record GivesOther (pair : Collected) (e : CollectRefused) (old new : StreamSeatValue) : Type 0 where
  pub mid : StreamSeatValue
  pub collects : Collects pair old mid
  pub other : IsOther pair e old
  pub kept : mid.kept ≡ drop 1 old.kept
  pub noted : new ≡ torn_at (collected_by old) mid

-- why a collection gives no image of the seat's oldest frame
abbrev pub IsCollectRefused : CollectRefused → (old new : StreamSeatValue) → Type 0
IsCollectRefused e old new =
    MatchOption e.pair (IsCollectTold old e.refusal × (new ≡ after_refusal e.refusal old)) (λ pair.
    GivesOther pair e old new)

-- the worker got this lease
abbrev pub Leases : LeaseValue → (old new : WorkSeatValue) → Type 0
Leases lease old new =
    new ≡ record old { calls = with_call (acts.Leased lease.stream lease.number lease.granted) old.calls }

-- why a worker gets no lease at once, and why it gets none in the end
abbrev pub IsLeaseRefusal : WorkSeatValue → Refusal → Type 0
IsLeaseRefusal seat (Core e) = (e ≡ cores.NoWorker) ⊎ (e ≡ cores.Busy) ⊎ (e ≡ cores.NoneReady)
IsLeaseRefusal seat HistoryFull = ⊤
IsLeaseRefusal seat (Torn (came.Limit limit)) = limit ≢ seat.calls.limit
IsLeaseRefusal seat e = ⊥

abbrev pub IsEndOfLeases : WorkSeatValue → Refusal → Type 0
IsEndOfLeases seat e = (e ≡ Core cores.Drained) ⊎ IsLeaseRefusal seat e

-- the worker gave this lease back, with this outcome
abbrev pub Settles : LeaseValue → code.Settled → (old new : WorkSeatValue) → Type 0
Settles lease done old new =
    new ≡ record old { calls = with_call (acts.Settled lease.used (is_finished done)) old.calls }

-- the worker gave this lease back, with this outcome, and then got the next one, where there is one
pub record SettlesAndLeases (lease : LeaseValue) (done : code.Settled) (next : Option LeaseValue)
    (old new : WorkSeatValue) : Type 0 where
  pub mid : WorkSeatValue
  pub settles : Settles lease done old mid
  pub leases : MatchOption next (new ≡ mid) (λ next. Leases next mid new)

-- the frame of the lease is finished where all its steps are done, and has the lease's number
pub record IsOutcome (lease : LeaseValue) (done : code.Settled) : Type 0 where
  pub all : IsTrue (is_finished done) ↔ (lease.job.done ≡ steps_of lease.job.chain)

abbrev pub HasNumber : LeaseValue → code.Settled → Type 0
HasNumber lease settled.Returned = ⊤
HasNumber lease (settled.Finished n) = n ≡ lease.number

-- a settlement finished a frame of another number than the lease's
abbrev pub FinishesOther : LeaseValue → Refusal → (old new : WorkSeatValue) → Type 0
FinishesOther lease (Torn (came.Number n)) old new =
    (n ≢ lease.number) × IsOutcome lease (settled.Finished n) × Settles lease (settled.Finished n) old new
FinishesOther lease e old new = ⊥

-- why a worker gets its lease back that it would settle
abbrev pub IsSettleRefusal : WorkSeatValue → Refusal → Type 0
IsSettleRefusal seat (Core e) = (e ≡ cores.NoWorker) ⊎ (e ≡ cores.NoLease)
IsSettleRefusal seat StrayLease = ⊤
IsSettleRefusal seat (Torn (came.Limit limit)) = limit ≢ seat.calls.limit
IsSettleRefusal seat e = ⊥

-- why a settlement is refused. The lease doesn't come back where it was settled after all
abbrev pub IsSettleRefused : LeaseValue → LeaseRefused → (old new : WorkSeatValue) → Type 0
IsSettleRefused lease e old new =
    MatchOption e.lease (FinishesOther lease e.refusal old new) (λ back. (back ≡ lease) × (new ≡ old))
