-- What becomes of an image in hand.
use Rattle.std.proofs.Common.{◌≡◌, ◌≢◌, ℕ, ◌+◌, ◌≤◌, ◌<◌, ◌∷◌, length, Option, Some, None, Result, Ok, Err, Bool, true, false}
use Rattle.std.proofs.Common.{inl, IfOk, IfErr, IfSome, take, refl, sym, ap, ◌∙◌, arith, subst, length-append}
use Rattle.std.proofs.KnownBytes.{Appends-nil}
use Rattle.filters.specs.Chain.{ChainValue}
use Rattle.y4m_header.specs.StreamText.{FrameText, text_of}
use Rattle.y4m_header.specs.declared.limits.TheConstants.{MOST_FRAMES}
use Rattle.y4m_stream.specs.Reader.{frame_text_of}
use Rattle.y4m_stream.specs.Writer.{CountsMore, IsWithin, IsWriterFor, PutsMore, WriterState}
use Rattle.std.specs.Io.KnownBytes.{Appends}
use Rattle.y4m_stream.specs.declared.fault.WriteFault.{WriteFault}
use Rattle.serve_core.specs.declared.collected.Collected.{Collected}
use Rattle.serve_hub.specs.Calls.{Collects, Gives}
use Rattle.serve_hub.specs.Seats.{StreamSeatValue, collected_by}
use Rattle.serve_client.specs.declared.stop.Halt.{Halt}
use Rattle.serve_client.specs.declared.stop.Halt.TheVariants.{Full, Stopped}
use Rattle.serve_client.specs.declared.stop.Stop.TheVariants.{Whole, Read, Write, Refused, Torn}
use Rattle.serve_client.specs.ClientInside.{IsLeft, IsOfCollection, IsOfDelivery, IsOfWriting, LeavesInHand, Tallies}
use Rattle.serve_client.specs.Hands.{CanPutOn, EndsPair, IsBegunPair, IsPairOf}
use Rattle.serve_client.proofs.Moving.{image_size, image_text}
use Rattle.serve_client.proofs.Tallying.{TalliesSeat-collect, if_none, one_collected}

-- a text has at least its line feed
some_text : (image : FrameText) → 0 < length (text_of image)
some_text image = omega (arith, length-append image.line (10 ∷ image.samples))

-- nothing of an image went out yet
pub within_none : (writer : WriterState) (image : FrameText) → writer.failed ≡ false → writer.part ≡ 0 → IsWithin writer writer image
within_none writer image writing none = record {
  writing = writing;
  none = none;
  partly = omega (arith, none, some_text image);
  front = subst (λ (n : ℕ). Appends writer.contents writer.contents (take n (text_of image))) (sym none)
      (Appends-nil writer.contents);
  stays = ap (λ (n : ℕ). record writer { bytes = n }) (omega (arith, none));
}

-- an image that was just collected
module _ (pair : Collected) (old new : StreamSeatValue) (writer : WriterState) (given : Gives pair old new) where
  pub begun_now : writer.failed ≡ false → writer.part ≡ 0 → IsBegunPair new.chain pair writer writer
  begun_now writing none = record {
    within = within_none writer (frame_text_of pair.image) writing none;
    made = rw (ap (λ (s : StreamSeatValue). s.chain) given.collects.seat) (image_text pair old new given);
  }

  pub can_put_on : IsWriterFor old.chain writer → writer.frames + length old.kept ≤ MOST_FRAMES → writer.part ≡ 0
      → CanPutOn writer pair
  can_put_on size few none = record {
    size = image_size old.chain pair.image writer size given.size;
    few = omega (arith, few, ap length given.oldest);
    part = omega (arith, none, some_text (frame_text_of pair.image));
  }

-- what is left in hand, of an image that was just collected
pub left_halt : (halt : Halt) (pair : Collected) (old new : StreamSeatValue) (writer : WriterState)
    → Gives pair old new → LeavesInHand pair writer halt → IsLeft old.chain writer halt
left_halt (Full None) pair old new writer given left = tt
left_halt (Full (Some p)) pair old new writer given left =
    (rw left.0 (record { source = given.source; image = given.size }), left.1)
left_halt (Stopped stop) pair old new writer given left = tt

pub left_of : {T : Type 0} (result : Result T Halt) (pair : Collected) (old new : StreamSeatValue) (writer : WriterState)
    → Gives pair old new → IfErr result (LeavesInHand pair writer) → IfErr result (IsLeft old.chain writer)
left_of (Ok t) pair old new writer given left = tt
left_of (Err halt) pair old new writer given left = left_halt halt pair old new writer given left

-- it counts as one that was written
pub tally_finish : (pair : Collected) (old new : StreamSeatValue) (writer writer' : WriterState) → Collects pair old new
    → writer'.frames ≤ writer.frames + 1 → Tallies old new writer writer'
tally_finish pair old new writer writer' c count = record {
  seat = TalliesSeat-collect pair old new c;
  images = omega (arith, one_collected pair old new c, count);
  torn = λ none.
      if_none (λ n. writer'.frames + collected_by old ≤ writer.frames + n) new.torn
      (ap (λ (s : StreamSeatValue). s.torn) c.seat ∙ none);
}

-- where the pair comes back
pub back_is : (P : Collected → Type 0) (result : Result Collected Halt) (pair : Collected) → IfOk result (λ back. back ≡ pair) → P pair
    → IfOk result P
back_is P (Ok back) pair same p = subst P (sym same) p
back_is P (Err halt) pair same p = tt

-- a stop of the writer

pub writing_collects : (halt : Halt) → IsOfWriting halt → IsOfCollection halt
writing_collects (Full image) own = tt
writing_collects (Stopped Whole) own = absurd own
writing_collects (Stopped (Read fault)) own = absurd own
writing_collects (Stopped (Refused cause)) own = absurd own
writing_collects (Stopped (Write fault)) own = tt
writing_collects (Stopped Torn) own = absurd own

pub writing_delivers : (halt : Halt) → IsOfWriting halt → IsOfDelivery halt
writing_delivers (Full image) own = tt
writing_delivers (Stopped Whole) own = absurd own
writing_delivers (Stopped (Read fault)) own = absurd own
writing_delivers (Stopped (Refused cause)) own = absurd own
writing_delivers (Stopped (Write fault)) own = λ useful. useful
writing_delivers (Stopped Torn) own = absurd own

pub writing_unfinished : (X : Type 0) (halt : Halt) → IsOfWriting halt → halt ≡ Stopped Whole → X
writing_unfinished X halt own is = absurd (subst IsOfWriting is own)

pub err_map : {T E : Type 0} (P Q : E → Type 0) (result : Result T E) → ((e : E) → P e → Q e) → IfErr result P → IfErr result Q
err_map P Q (Ok t) f p = tt
err_map P Q (Err e) f p = f e p

-- writing on, and on again
pub counted_on : (a b c : WriterState) (image : FrameText) (result : Result Bool WriteFault) → CountsMore a b image (Ok false)
    → CountsMore b c image result → CountsMore a c image result
counted_on a b c image (Ok true) p q =
    q ∙ ap (λ (w : WriterState). record w { contents = c.contents; frames = w.frames + 1; bytes = c.bytes; part = 0 }) p.1
counted_on a b c image (Ok false) p q =
    (q.0, q.1 ∙ ap (λ (w : WriterState). record w { contents = c.contents; bytes = c.bytes; part = c.part }) p.1)
counted_on a b c image (Err fault) p q = q ∙ ap (λ (w : WriterState). record w {
  contents = c.contents;
  bytes = c.bytes;
  part = c.part;
  failed = true;
  failures = c.failures;
}) p.1

pub can_still : (pair : Collected) (old new : WriterState) → CanPutOn old pair
    → CountsMore old new (frame_text_of pair.image) (Ok false) → CanPutOn new pair
can_still pair old new can p = record {
  size = record {
    width = can.size.width ∙ sym (ap (λ (w : WriterState). w.width) p.1);
    height = can.size.height ∙ sym (ap (λ (w : WriterState). w.height) p.1);
    chroma = can.size.chroma ∙ sym (ap (λ (w : WriterState). w.chroma) p.1);
  };
  few = subst (λ (n : ℕ). n < MOST_FRAMES) (sym (ap (λ (w : WriterState). w.frames) p.1)) can.few;
  part = p.0;
}

-- what is left in hand where the journal is full
pub full_left : (image : Option Collected) (pair : Collected) (chain : ChainValue) (writer : WriterState)
    → LeavesInHand pair writer (Full image) → IsPairOf chain pair → IfSome image (λ left. IsPairOf chain left × CanPutOn writer left)
full_left None pair chain writer left of = tt
full_left (Some p) pair chain writer left of = (rw left.0 of, left.1)

pub full_can : (image : Option Collected) (pair : Collected) (writer : WriterState) → LeavesInHand pair writer (Full image)
    → IfSome image (CanPutOn writer)
full_can None pair writer left = tt
full_can (Some p) pair writer left = left.1

-- an image in hand was written to its end
abbrev pub answer : Bool → Result Bool WriteFault
answer whole = Ok whole

pub ended_well : (pair : Collected) (before writer : WriterState) (whole : Bool) → answer whole ≢ answer false
    → PutsMore before writer (frame_text_of pair.image) (answer whole) → EndsPair pair Whole before writer
ended_well pair before writer true decided put = inl (refl, put)
ended_well pair before writer false decided put = absurd (decided refl)

pub counted_well : (pair : Collected) (old new : WriterState) (whole : Bool) → answer whole ≢ answer false
    → CountsMore old new (frame_text_of pair.image) (answer whole) → new.frames ≡ old.frames + 1
counted_well pair old new true decided counted = ap (λ (w : WriterState). w.frames) counted
counted_well pair old new false decided counted = absurd (decided refl)
