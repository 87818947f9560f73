-- What stays of a client's pipeline while frames pass.
use Rattle.std.proofs.Common.{◌≡◌, ◌∙◌, ℕ, List, Option, None, IfSome, refl}
use Rattle.y4m_header.specs.StreamText.{FrameText}
use Rattle.y4m_stream.specs.declared.reader.Phase.TheVariants.{Open}
use Rattle.serve_client.specs.declared.feeding.Fed.{Fed}
use Rattle.serve_client.specs.declared.pipeline.Pipeline.{Pipeline}
use Rattle.serve_client.specs.ClientInside.{AllowsFed, AreBuffersFor, GivesUp, IsSizedFed, Moves, Stays, Tallies}
use Rattle.serve_client.specs.Pipelines.{CanOffer, CanReadOn, HasFed, fed_image_in}
use Rattle.serve_client.proofs.Moving.{Accounted-later, size_later}
use Rattle.serve_client.proofs.Staying.{stays_chain}
use Rattle.serve_client.proofs.Tallying.{KeepsMoments-same, KeepsMoments-trans, Tallies-none, Tallies-trans, none_given}

-- nothing was fed
pub HasFed-none : {L R W : Type 0} (Gives : ℕ → Type 0) (pipeline : Pipeline L R W)
    → AreBuffersFor pipeline.seat.chain pipeline.buffers
    → HasFed Gives None pipeline pipeline
HasFed-none Gives pipeline memory = record {
  tally = Tallies-none _ _;
  moments = KeepsMoments-same Gives _ _ refl;
  stop = tt;
  memory = memory;
  frame = tt;
  header = refl;
}

module _ {L R W : Type 0} (old mid : Pipeline L R W) where
  pub CanOffer-later : (frames : List FrameText) → Moves old.seat mid.seat old.writer mid.writer frames
      → AreBuffersFor old.seat.chain mid.buffers → CanOffer old → CanOffer mid
  CanOffer-later frames moved memory can = record {
    size = size_later old.seat mid.seat old.writer mid.writer frames moved can.size;
    accounted = Accounted-later old.seat mid.seat old.writer mid.writer frames moved can.accounted;
    memory = rw (stays_chain old.seat mid.seat moved.seat_stays) memory;
  }

  pub CanReadOn-later : (Gives : ℕ → Type 0) (frames : List FrameText) → Moves old.seat mid.seat old.writer mid.writer frames
      → HasFed Gives None old mid → mid.reader.phase ≡ Open → CanReadOn old → CanReadOn mid
  CanReadOn-later Gives frames moved fed is_open can = record {
    header = rw (fed.header, stays_chain old.seat mid.seat moved.seat_stays) can.header;
    is_open = is_open;
    offer = CanOffer-later frames moved fed.memory can.offer;
  }

  -- images went out, and no frame was offered
  pub HasFed-delivered : (Gives : ℕ → Type 0) (fed : Option Fed) → Tallies old.seat mid.seat old.writer mid.writer
      → GivesUp old.seat mid.seat → AreBuffersFor old.seat.chain mid.buffers → mid.reader.header ≡ old.reader.header
      → fed_image_in fed ≡ None → IfSome fed (AllowsFed Gives) → IfSome fed (IsSizedFed old.seat.chain mid.writer)
      → HasFed Gives fed old mid
  HasFed-delivered Gives fed tally up memory header none stop frame = record {
    tally = rw none tally;
    moments = none_given Gives _ _ tally.seat up;
    stop = stop;
    memory = memory;
    frame = frame;
    header = header;
  }

  pub HasFed-trans : (Gives : ℕ → Type 0) (fed : Option Fed) (new : Pipeline L R W) → Stays old.seat mid.seat
      → HasFed Gives None old mid → HasFed Gives fed mid new → HasFed Gives fed old new
  HasFed-trans Gives fed new stays first last =
      let chain = stays_chain old.seat mid.seat stays in
      record {
        tally = Tallies-trans _ _ _ _ _ _ stays.torn first.tally last.tally;
        moments = KeepsMoments-trans Gives _ _ _ first.moments last.moments;
        stop = last.stop;
        memory = rw chain at last.memory;
        frame = rw chain at last.frame;
        header = last.header ∙ first.header;
      }
