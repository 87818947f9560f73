-- What contracts say of frames that are offered while a fault is held.
use Rattle.std.specs.Prelude.{ℕ, ◌≡◌, ⊤, false, List, Result, Ok, Err, Some}
use Rattle.y4m_header.specs.StreamText.{FrameText}
use Rattle.filters.specs.Chain.{ChainValue}
use Rattle.y4m_stream.specs.declared.reader.Phase.TheVariants.{Open}
use Rattle.y4m_stream.specs.Reader.{IsOfHeader, ReaderState}
use Rattle.y4m_stream.specs.Writer.{WriterState}
use Rattle.serve_hub.specs.declared.entry.Act.{Act}
use Rattle.serve_hub.specs.Seats.{StreamSeatValue}
use Rattle.serve_client.specs.declared.holding.Onward.{Onward}
use Rattle.serve_client.specs.declared.holding.Onward.TheVariants as onward
use Rattle.serve_client.specs.Clients.{AllowsStop}
use Rattle.serve_client.specs.ClientInside.{Feeds, HasInHand, HasPassed, IsNoWrite, IsSized, KeepsMoments}
use Rattle.serve_client.specs.ClientInside.{TalliesSeat, text_in}

-- where no image is written any more: the journal or the queue is full, or the client stops
abbrev pub OffersOn : Onward → List Act → ReaderState → ReaderState → StreamSeatValue → StreamSeatValue
    → WriterState → Type 0
OffersOn (onward.Paused in_hand) past reader reader' seat seat' writer =
    HasInHand reader reader' seat seat' writer writer (text_in in_hand)
OffersOn onward.QueueFull past reader reader' seat seat' writer =
    (frame : FrameText) × HasInHand reader reader' seat seat' writer writer (Some frame)
OffersOn (onward.Stopped stop) past reader reader' seat seat' writer =
    IsNoWrite stop × Feeds past stop reader reader' seat seat' writer writer

abbrev pub OffersOnce : {T : Type 0} → Result T Onward → List Act → ReaderState → ReaderState
    → StreamSeatValue → StreamSeatValue → WriterState → Type 0
OffersOnce (Ok t) past reader reader' seat seat' writer = HasPassed reader reader' seat seat' writer writer
OffersOnce (Err stopped) past reader reader' seat seat' writer =
    OffersOn stopped past reader reader' seat seat' writer

abbrev pub AllowsOnward : (Gives : ℕ → Type 0) → Onward → Type 0
AllowsOnward Gives (onward.Paused in_hand) = ⊤
AllowsOnward Gives onward.QueueFull = ⊤
AllowsOnward Gives (onward.Stopped stop) = AllowsStop Gives stop

-- what a client needs that reads on with a fault held
pub record CanHoldOn (reader : ReaderState) (seat : StreamSeatValue) : Type 0 where
  pub header : IsOfHeader reader.header seat.chain.geometry
  pub is_open : reader.phase ≡ Open
  pub is_unclosed : seat.is_closed ≡ false

-- the frame that is left in hand is for this chain
abbrev pub IsSizedOnward : ChainValue → Onward → Type 0
IsSizedOnward chain (onward.Paused in_hand) = IsSized chain in_hand
IsSizedOnward chain onward.QueueFull = ⊤
IsSizedOnward chain (onward.Stopped stop) = ⊤

-- what is known of a client that stopped reading so, or was paused by a full journal
pub record HasHeld (Gives : ℕ → Type 0) (onward : Onward) (reader reader' : ReaderState)
    (old new : StreamSeatValue) : Type 0 where
  pub tally : TalliesSeat old new
  pub moments : KeepsMoments Gives old new
  pub stop : AllowsOnward Gives onward
  pub frame : IsSizedOnward old.chain onward
  pub header : reader'.header ≡ reader.header
