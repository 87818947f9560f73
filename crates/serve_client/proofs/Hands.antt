-- What was before an image in hand was begun.
use Rattle.std.proofs.Common.{◌≡◌, ℕ, ◌+◌, ◌≤◌, ◌∷◌, Option, Some, None, IfSome, refl, sym, ap, ◌∙◌, arith}
use Rattle.filters.specs.Chain.{ChainValue}
use Rattle.y4m_stream.specs.Writer.{IsWriterFor, WriterState}
use Rattle.serve_core.specs.declared.collected.Collected.{Collected}
use Rattle.serve_core.specs.Streams.{source_in}
use Rattle.serve_hub.specs.Seats.{StreamSeatValue, collected_by, spec_told}
use Rattle.serve_client.specs.ClientInside.{GivesUp, Tallies, TalliesSeat}
use Rattle.serve_client.specs.Epochs.{IsReopened}
use Rattle.serve_client.specs.Hands.{Behind, CanPutOn, IsBegunPair, IsPairOf, counted_with, with_kept}
use Rattle.serve_client.proofs.Tallying.{Tallies-still, TalliesSeat-same, if_none, seat_same}

-- the seat and the writer as they were before an image in hand was begun, or as they are
pub record StoodBehind (seat s : StreamSeatValue) (writer w : WriterState) : Type 0 where
  pub same_seat : s ≡ record seat { kept = s.kept }
  pub same_writer : writer ≡ record w { contents = writer.contents; bytes = writer.bytes; part = writer.part }

pub stood_pair : (chain : ChainValue) (pair : Collected) (seat : StreamSeatValue) (before writer : WriterState)
    → IsBegunPair chain pair before writer → StoodBehind seat (with_kept pair seat) writer before
stood_pair chain pair seat before writer begun = record {
  same_seat = refl;
  same_writer = begun.within.stays
      ∙ ap (λ (n : ℕ). record before { contents = writer.contents; bytes = n; part = writer.part })
      (sym (ap (λ (w : WriterState). w.bytes) begun.within.stays));
}

pub Behind-map : (image : Option Collected) (seat : StreamSeatValue) (writer : WriterState)
    (P Q : StreamSeatValue → WriterState → Type 0)
    → ((s : StreamSeatValue) (w : WriterState) → StoodBehind seat s writer w → P s w → Q s w)
    → Behind image seat writer P → Behind image seat writer Q
Behind-map None seat writer P Q f b = f seat writer (record { same_seat = refl; same_writer = refl }) b
Behind-map (Some pair) seat writer P Q f b =
    (b.0, b.1, f (with_kept pair seat) b.0 (stood_pair seat.chain pair seat b.0 writer b.1) b.2)

pub Behind-any : (image : Option Collected) (seat : StreamSeatValue) (writer : WriterState)
    (P : StreamSeatValue → WriterState → Type 0) (X : Type 0)
    → ((s : StreamSeatValue) (w : WriterState) → StoodBehind seat s writer w → P s w → X) → Behind image seat writer P → X
Behind-any None seat writer P X f b = f seat writer (record { same_seat = refl; same_writer = refl }) b
Behind-any (Some pair) seat writer P X f b =
    f (with_kept pair seat) b.0 (stood_pair seat.chain pair seat b.0 writer b.1) b.2

module _ (seat s : StreamSeatValue) (writer w : WriterState) (stood : StoodBehind seat s writer w) where
  pub stood_tally : TalliesSeat seat s
  stood_tally = TalliesSeat-same seat s (ap (λ (v : StreamSeatValue). v.number) stood.same_seat)
      (ap spec_told stood.same_seat) (ap (λ (v : StreamSeatValue). v.before) stood.same_seat)
      (ap (λ (v : StreamSeatValue). v.calls) stood.same_seat) (ap (λ (v : StreamSeatValue). v.accepted) stood.same_seat)
      (ap (λ (v : StreamSeatValue). v.moments) stood.same_seat) (ap (λ (v : StreamSeatValue). v.is_closed) stood.same_seat)
      (ap (λ (v : StreamSeatValue). v.torn) stood.same_seat)

  pub stood_chain : s.chain ≡ seat.chain
  stood_chain = ap (λ (v : StreamSeatValue). v.chain) stood.same_seat

  pub stood_size : (chain : ChainValue) → IsWriterFor chain w → IsWriterFor chain writer
  stood_size chain p = record {
    width = ap (λ (v : WriterState). v.width) stood.same_writer ∙ p.width;
    height = ap (λ (v : WriterState). v.height) stood.same_writer ∙ p.height;
    chroma = ap (λ (v : WriterState). v.chroma) stood.same_writer ∙ p.chroma;
  }

-- the seat has given the frame up since, and made no call
pub GivesUp-kept : (pair : Collected) (seat : StreamSeatValue) → GivesUp (with_kept pair seat) seat
GivesUp-kept pair seat = refl

pub TalliesSeat-kept : (pair : Collected) (seat : StreamSeatValue) → TalliesSeat (with_kept pair seat) seat
TalliesSeat-kept pair seat = TalliesSeat-same (with_kept pair seat) seat refl refl refl refl refl refl refl refl

-- and so in the next epoch
pub IsReopened-kept : (pair : Collected) (old new : StreamSeatValue) → IsReopened old new
    → IsReopened (with_kept pair old) (with_kept pair new)
IsReopened-kept pair old new r = record {
  number = r.number;
  spec = r.spec;
  accepted = r.accepted;
  is_closed = r.is_closed;
  kept = ap (λ k. source_in pair ∷ k) r.kept;
  calls = r.calls;
  before = r.before;
  torn = r.torn;
}

-- no call was made, and no more images count as written
pub Tallies-less : (seat : StreamSeatValue) (writer writer' : WriterState) → writer'.frames ≤ writer.frames
    → Tallies seat seat writer writer'
Tallies-less seat writer writer' less = record {
  seat = seat_same seat seat refl;
  images = omega (arith, less);
  torn = λ none. if_none (λ n. writer'.frames + collected_by seat ≤ writer.frames + n) seat.torn none;
}

-- calls were made beside the writer, and no image is in hand then
pub tally_behind : (a b c : StreamSeatValue) (writer between : WriterState) (image : Option Collected) → Tallies a b writer between
    → TalliesSeat b c → image ≡ None → Tallies a c writer (counted_with image between)
tally_behind a b c writer between image p t none = rw none (Tallies-still a b c writer between p t)

-- no image was written since
pub tally_silent : (a b c : StreamSeatValue) (writer between writer' : WriterState) (image : Option Collected)
    → Tallies a b writer between
    → TalliesSeat b c → (image ≡ None) × (writer' ≡ between) → Tallies a c writer (counted_with image writer')
tally_silent a b c writer between writer' image p t same = rw same.1 (tally_behind a b c writer between image p t same.0)

-- the writer can go on with what is left in hand
pub left_can : (image : Option Collected) (chain : ChainValue) (writer : WriterState)
    → IfSome image (λ pair. IsPairOf chain pair × CanPutOn writer pair) → IfSome image (CanPutOn writer)
left_can None chain writer left = tt
left_can (Some pair) chain writer left = left.1
