-- What became of a stream's images.
use Rattle.std.proofs.Common.{◌≡◌, ◌⊎◌, ◌+◌, Bool, true, false, List, [], length, ap, arith, refl, inl, inr, subst, sym, ◌∙◌, IsSome, IsTrue}
use Rattle.y4m_header.specs.StreamText.{FrameText}
use Rattle.y4m_stream.specs.Writer.{WriterState}
use Rattle.serve_hub.specs.Seats.{StreamSeatValue}
use Rattle.serve_client.specs.declared.stop.Halt.TheVariants.{Stopped}
use Rattle.serve_client.specs.declared.stop.Stop.{Stop}
use Rattle.serve_client.specs.declared.stop.Stop.TheVariants.{Whole, Read, Write, Refused, Torn}
use Rattle.serve_client.specs.Clients.{IsClosedUnlessTorn}
use Rattle.serve_client.specs.ClientInside.{IsOfCollection, IsUseful, Moves, StopsWith, TalliesSeat}
use Rattle.serve_client.specs.Sends.{IsSpoilt}
use Rattle.serve_client.proofs.Moving.{moved_kept}
use Rattle.serve_client.proofs.Tallying.{torn_still}

-- nothing more is written
pub spoilt_stays : (old new : StreamSeatValue) (writer : WriterState) → new.torn ≡ old.torn → IsSpoilt writer old → IsSpoilt writer new
spoilt_stays old new writer same (inl failed) = inl failed
spoilt_stays old new writer same (inr torn) = inr (subst IsSome (sym same) torn)

pub spoilt_later : (old new : StreamSeatValue) (writer : WriterState) → TalliesSeat old new → IsSpoilt writer old → IsSpoilt writer new
spoilt_later old new writer tally (inl failed) = inl failed
spoilt_later old new writer tally (inr torn) = inr (torn_still old new tally torn)

-- a stream that was closed stays so
not_open : (b : Bool) → (b ≡ false → ⊥) → IsTrue b
not_open true not = refl
not_open false not = absurd (not refl)

pub closed_later : (old new : StreamSeatValue) → TalliesSeat old new → IsClosedUnlessTorn old → IsClosedUnlessTorn new
closed_later old new tally (inl torn) = inl (torn_still old new tally torn)
closed_later old new tally (inr closed) = inr (not_open new.is_closed (λ is_open.
    let both : true ≡ false = sym closed ∙ (tally.unclosed is_open).0 in absurd (cc)))

-- and so it is behind a stop of no use
pub stopped_spoilt : (stop : Stop) (seat seat' : StreamSeatValue) (writer writer' : WriterState) (frames : List FrameText)
    → (IsUseful stop → ⊥) → StopsWith stop seat seat' writer writer' frames → IsSpoilt writer' seat'
stopped_spoilt Whole seat seat' writer writer' frames spoilt a = absurd (spoilt tt)
stopped_spoilt (Read fault) seat seat' writer writer' frames spoilt a = absurd (spoilt tt)
stopped_spoilt (Refused cause) seat seat' writer writer' frames spoilt a = absurd (spoilt tt)
stopped_spoilt (Write fault) seat seat' writer writer' frames spoilt a = inl (ap (λ (w : WriterState). w.failed) a.cut.failed)
stopped_spoilt Torn seat seat' writer writer' frames spoilt a = inr a.2

-- else all that was accepted went out or is kept
pub all_kept : (seat seat' : StreamSeatValue) (writer writer' : WriterState) (frames : List FrameText) → seat.kept ≡ []
    → Moves seat seat' writer writer' frames → writer'.frames + length seat'.kept ≡ writer.frames + length frames
all_kept seat seat' writer writer' frames none a =
    omega (arith, moved_kept seat seat' writer writer' frames a, ap length none)

pub stopped_kept : (stop : Stop) (seat seat' : StreamSeatValue) (writer writer' : WriterState) (frames : List FrameText) → seat.kept ≡ []
    → StopsWith stop seat seat' writer writer' frames
    → IsSpoilt writer' seat' ⊎ (writer'.frames + length seat'.kept ≡ writer.frames + length frames)
stopped_kept Whole seat seat' writer writer' frames none a = inr (all_kept seat seat' writer writer' frames none a)
stopped_kept (Read fault) seat seat' writer writer' frames none a = inr (all_kept seat seat' writer writer' frames none a)
stopped_kept (Refused cause) seat seat' writer writer' frames none a = inr (all_kept seat seat' writer writer' frames none a)
stopped_kept (Write fault) seat seat' writer writer' frames none a =
    inl (stopped_spoilt (Write fault) seat seat' writer writer' frames (λ useful. useful) a)
stopped_kept Torn seat seat' writer writer' frames none a =
    inl (stopped_spoilt Torn seat seat' writer writer' frames (λ useful. useful) a)

-- where images are still written, none is left behind a collection that stops
pub collected_whole : (stop : Stop) → IsUseful stop → IsOfCollection (Stopped stop) → stop ≡ Whole
collected_whole Whole useful own = refl
collected_whole (Read fault) useful own = absurd own
collected_whole (Refused cause) useful own = absurd own
collected_whole (Write fault) useful own = absurd useful
collected_whole Torn useful own = absurd useful
