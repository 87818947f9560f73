-- An image in hand: one that was begun, where a client pauses.
use Rattle.std.specs.Prelude.{ℕ, ◌≡◌, ◌+◌, ◌<◌, ◌⊎◌, ◌∷◌, ⊤, length, Option, Some, None, Result, Ok, Err}
use Rattle.filters.specs.Chain.{ChainValue}
use Rattle.y4m_header.specs.StreamText.{text_of}
use Rattle.y4m_header.specs.declared.limits.TheConstants.{MOST_FRAMES}
use Rattle.y4m_stream.specs.Reader.{frame_text_of}
use Rattle.y4m_stream.specs.Served.{IsImageText}
use Rattle.y4m_stream.specs.Writer.{FailsToPut, IsOfSize, IsWithin, PutsFrame, WriterState}
use Rattle.y4m_stream.specs.declared.fault.WriteFault.{WriteFault}
use Rattle.serve_core.specs.declared.collected.Collected.{Collected}
use Rattle.serve_core.specs.Streams.{IsImageOf, source_in}
use Rattle.serve_hub.specs.Seats.{StreamSeatValue}
use Rattle.serve_client.specs.declared.stop.Stop.{Stop}
use Rattle.serve_client.specs.declared.stop.Stop.TheVariants.{Whole, Read, Write, Refused, Torn}

-- the pair is a frame and its image by this chain, and a front of the image went out since the writer was so
pub record IsBegunPair (chain : ChainValue) (pair : Collected) (before now : WriterState) : Type 0 where
  pub within : IsWithin before now (frame_text_of pair.image)
  pub made : IsImageText chain (record { line = (source_in pair).line; samples = (source_in pair).samples })
      (frame_text_of pair.image)

-- the seat as it was when it still kept the frame of the pair
abbrev pub with_kept : Collected → StreamSeatValue → StreamSeatValue
with_kept pair seat = record seat { kept = source_in pair ∷ seat.kept }

-- so it is with the seat and the writer; where an image is in hand, so it was before that was begun
abbrev pub Behind : Option Collected → StreamSeatValue → WriterState
    → (StreamSeatValue → WriterState → Type 0) → Type 0
Behind None seat writer P = P seat writer
Behind (Some pair) seat writer P =
    (before : WriterState) × IsBegunPair seat.chain pair before writer × P (with_kept pair seat) before

-- an image in hand counts as one that was written
abbrev pub counted_with : Option Collected → WriterState → WriterState
counted_with None writer = writer
counted_with (Some pair) writer = record writer { frames = writer.frames + 1 }

-- the image in hand that is left behind a fault, if there is one
abbrev pub image_at : {T E : Type 0} → (E → Option Collected) → Result T E → Option Collected
image_at left (Ok t) = None
image_at left (Err e) = left e

-- the pair is of the chain
pub record IsPairOf (chain : ChainValue) (pair : Collected) : Type 0 where
  pub source : (source_in pair).geometry ≡ chain.geometry
  pub image : IsImageOf chain pair.image

-- the writer can go on with the image of the pair
pub record CanPutOn (writer : WriterState) (pair : Collected) : Type 0 where
  pub size : IsOfSize writer pair.image.geometry
  pub few : writer.frames < MOST_FRAMES
  pub part : writer.part < length (text_of (frame_text_of pair.image))

-- what writing an image to its end comes to
abbrev pub IsOfEnding : Stop → Type 0
IsOfEnding Whole = ⊤
IsOfEnding (Read fault) = ⊥
IsOfEnding (Write fault) = ⊤
IsOfEnding (Refused cause) = ⊥
IsOfEnding Torn = ⊥

-- the image of the pair was written to its end, or that failed, and so it is told
abbrev pub EndsPair : Collected → Stop → WriterState → WriterState → Type 0
EndsPair pair ended before writer =
    (ended ≡ Whole) × PutsFrame before writer (frame_text_of pair.image)
    ⊎ ((fault : WriteFault) × (ended ≡ Write fault)
    × FailsToPut before writer (frame_text_of pair.image) fault)

-- the same of an image in hand, if there is one
abbrev pub EndsImage : Option Collected → ChainValue → Stop → WriterState → WriterState → Type 0
EndsImage None chain ended writer writer' = (ended ≡ Whole) × (writer' ≡ writer)
EndsImage (Some pair) chain ended writer writer' =
    (before : WriterState) → IsBegunPair chain pair before writer → EndsPair pair ended before writer'

-- how many images went out before, and how many then
abbrev pub CountsImage : Option Collected → Stop → (old new : ℕ) → Type 0
CountsImage None ended old new = (ended ≡ Whole) × (new ≡ old)
CountsImage (Some pair) ended old new =
    (ended ≡ Whole) × (new ≡ old + 1) ⊎ ((fault : WriteFault) × (ended ≡ Write fault) × (new ≡ old))
