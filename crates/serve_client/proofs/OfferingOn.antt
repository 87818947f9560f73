-- What an offer comes to where no image is written any more.
use Rattle.std.proofs.Common.{◌≡◌, ℕ, [], ◌∷◌, List, Some, refl, subst, sym}
use Rattle.std.specs.declared.alloc.Global.{Global}
use Rattle.std.specs.declared.sync.Arc.{Arc}
use Rattle.std.specs.Arc.{arc_value}
use Rattle.frame_view.specs.declared.frame.Frame.{Frame}
use Rattle.y4m_header.specs.StreamText.{FrameText}
use Rattle.y4m_stream.specs.Reader.{ReaderState, TakesFrame, frame_text_of}
use Rattle.y4m_stream.specs.Writer.{WriterState}
use Rattle.serve_hub.specs.declared.entry.Act.{Act}
use Rattle.serve_hub.specs.Seats.{StreamSeatValue}
use Rattle.serve_client.specs.declared.feeding.Fed.TheVariants as feds
use Rattle.serve_client.specs.declared.feeding.Offered.TheVariants as offered
use Rattle.serve_client.specs.declared.holding.Onward.{Onward}
use Rattle.serve_client.specs.declared.holding.Onward.TheVariants as onward
use Rattle.serve_client.specs.declared.stop.Stop.{Stop}
use Rattle.serve_client.specs.declared.stop.Stop.TheVariants.{Whole, Read, Write, Refused, Torn}
use Rattle.serve_client.specs.ClientInside.{HasInHand, HasPassed, Holds, IsCounted, IsNoWrite, IsOffered, IsUnread, Passes, text_in}
use Rattle.serve_client.specs.Holding.{OffersOn}
use Rattle.serve_client.proofs.Tallying.{seat_same}
use Rattle.serve_client.proofs.Moving.{Moves-accept, Moves-none}
use Rattle.serve_client.proofs.Offering.{offer_stopped}
use Rattle.serve_client.proofs.Passing.{Feeds-behind, Feeds-unfed, HasInHand-behind, Passes-none, Passes-push, Passes-still}

-- an offer, and a reading, have no fault of the writer
pub no_write_offered : (stop : Stop) (at : ℕ) (frame : Frame) (old new : StreamSeatValue)
    → IsOffered (offered.Stopped stop) at frame old new
    → IsNoWrite stop
no_write_offered Whole at frame old new p = tt
no_write_offered (Read fault) at frame old new p = tt
no_write_offered (Refused cause) at frame old new p = tt
no_write_offered (Write fault) at frame old new p = p
no_write_offered Torn at frame old new p = tt

pub no_write_read : (stop : Stop) (old new : ReaderState) → IsUnread old new stop → IsNoWrite stop
no_write_read Whole old new u = tt
no_write_read (Read fault) old new u = tt
no_write_read (Refused cause) old new u = tt
no_write_read (Write fault) old new u = u
no_write_read Torn old new u = tt

-- a frame that was taken off the front of a reader is offered
module _ (before reader : ReaderState) (frame : Frame) (taken : Holds before reader (Some (frame_text_of frame)))
    (seat seat' : StreamSeatValue) (writer : WriterState) where
  pub offered_well : (at : ℕ) → IsOffered offered.Accepted at frame seat seat' → HasPassed before reader seat seat' writer writer
  offered_well at p = record {
    frames = frame_text_of frame ∷ [];
    passed = Passes-push before before seat seat writer writer [] (Passes-none before seat writer) reader seat' writer (frame_text_of frame)
        taken.0 taken.1 (Moves-accept seat seat' writer frame p.0 p.1);
    is_open = taken.0.stays_open;
  }

  pub offered_in_vain : (back : Arc Frame Global) → arc_value back ≡ frame → seat' ≡ seat
      → HasInHand before reader seat seat' writer writer (text_in (Some back))
  offered_in_vain back same stays = record {
    before = before;
    frames = [];
    passed = Passes-still before seat seat' writer writer (Moves-none seat seat' writer writer stays refl);
    holds = (subst (λ (f : Frame). TakesFrame before reader (frame_text_of f)) (sym same) taken.0, taken.1);
    is_open = taken.0.stays_open;
  }

  pub offered_last : (past : List Act) (stop : Stop) (at : ℕ) → IsCounted past seat → IsOffered (offered.Stopped stop) at frame seat seat'
      → OffersOn (onward.Stopped stop) past before reader seat seat' writer
  offered_last past stop at counted p = (
    no_write_offered stop at frame seat seat' p,
    Feeds-unfed before before seat seat writer writer [] (Passes-none before seat writer) past (feds.Stopped stop) reader seat' writer
        frame counted taken.0 taken.1
        (offer_stopped stop at frame seat seat seat' writer writer (Moves-none seat seat writer writer refl refl) refl
        (seat_same seat seat refl) p),
  )

-- behind some frames that passed
pub OffersOn-behind : (reader mid reader' : ReaderState) (seat between seat' : StreamSeatValue) (writer : WriterState)
    (frames : List FrameText) → Passes reader mid seat between writer writer frames → (past : List Act) (stopped : Onward)
    → OffersOn stopped past mid reader' between seat' writer → OffersOn stopped past reader reader' seat seat' writer
OffersOn-behind reader mid reader' seat between seat' writer frames so_far past (onward.Paused in_hand) b =
    HasInHand-behind reader mid seat between writer writer frames so_far (text_in in_hand) reader' seat' writer b
OffersOn-behind reader mid reader' seat between seat' writer frames so_far past onward.QueueFull b =
    (b.0, HasInHand-behind reader mid seat between writer writer frames so_far (Some b.0) reader' seat' writer b.1)
OffersOn-behind reader mid reader' seat between seat' writer frames so_far past (onward.Stopped stop) b =
    (b.0, Feeds-behind reader mid seat between writer writer frames so_far past stop reader' seat' writer b.1)
