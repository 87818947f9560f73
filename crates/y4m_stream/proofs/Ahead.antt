-- Frames that pass from a reader to a writer, where each is read while the image before it is written.
use Rattle.std.proofs.Common.{◌≡◌, ℕ, ◌+◌, ◌<◌, ◌≤◌, List, [], ◌∷◌, ◌++◌, length, Bool, true, false, Result}
use Rattle.std.proofs.Common.{Ok, Err, IfErr, refl, ◌∙◌, ◌⊎◌, inl, inr, length-append, arith}
use Rattle.std.proofs.KnownBytes.{Consumes-kept, Consumes-nil, Consumes-trans}
use Rattle.frame_view.specs.declared.frame.Frame.{Frame}
use Rattle.y4m_header.specs.StreamText.{FrameText, IsFrameOf, text_of}
use Rattle.filters.specs.Chain.{ChainValue}
use Rattle.filters.specs.declared.error.FilterError.{FilterError}
use Rattle.filters.specs.declared.error.FilterError.TheVariants.{NoMemory}
use Rattle.y4m_stream.specs.declared.fault.ReadFault.{ReadFault}
use Rattle.y4m_stream.specs.declared.fault.ReadFault.TheVariants.{Device, LineTooLong, Header, NotFrame}
use Rattle.y4m_stream.specs.declared.fault.ReadFault.TheVariants.{Truncated, NoMemory as NoReadMemory, Failed}
use Rattle.y4m_stream.specs.declared.fault.WriteFault.{WriteFault}
use Rattle.y4m_stream.specs.declared.fault.FilterFault.{FilterFault}
use Rattle.y4m_stream.specs.declared.fault.FilterFault.TheVariants.{Read, Ops, Write, TooManyFrames}
use Rattle.y4m_stream.specs.Filtered.{CountsReads, IsLineAhead}
use Rattle.y4m_stream.specs.Front.{IsFrameAhead}
use Rattle.y4m_stream.specs.Inside.{CanPass, HasPassed, ReadsTold, Stops}
use Rattle.y4m_stream.specs.Failures.{one_more}
use Rattle.y4m_stream.specs.Reader.{ReaderState, AnswersOpen, FailsAtFrame, MeetsEnd, TakesFrame, answer_into}
use Rattle.y4m_stream.specs.Reader.{data_len_of, failures_at, frame_text_of}
use Rattle.y4m_stream.specs.Served.{IsImageText}
use Rattle.y4m_stream.specs.Writer.{FailsToPut, PutsFrame, WriterState}
use Rattle.y4m_stream.specs.declared.lookahead.TheConstants.{LINE_LIMIT}
use Rattle.y4m_header.specs.declared.limits.TheConstants.{MOST_FRAMES}
use Rattle.y4m_stream.proofs.MoreFrames.{CanPass-next, PassesFrames, PassesFrames-none, PassesFrames-push}
use Rattle.y4m_stream.proofs.MoreFrames.{HasPassed-all, HasPassed-cut, HasPassed-limit, HasPassed-memory}
use Rattle.y4m_stream.proofs.MoreFrames.{HasPassed-read}

text_length : (len : ℕ) (frame : FrameText) → IsFrameOf len frame → length (text_of frame) ≤ LINE_LIMIT + len
text_length len frame is = rw length-append (omega (arith, is.whole, is.is_line.is_line.short))

-- one read was answered, whatever the answer
pub read_once : (reader reader' : ReaderState) (frame : Frame) (answer : Result Bool ReadFault)
    → AnswersOpen reader reader' (answer_into frame answer)
    → IfErr answer (λ _. IsFrameAhead (data_len_of reader.header) reader.rest reader'.left)
    → IsFrameAhead (data_len_of reader.header) reader.rest reader'.left
read_once reader reader' frame (Ok true) one ahead =
    let text = text_of (frame_text_of frame) in (
      text ++ one.ahead.0,
      Consumes-trans reader.rest reader'.rest reader'.left text one.ahead.0 one.taken one.ahead.1,
      rw length-append (omega (arith, text_length (data_len_of reader.header) (frame_text_of frame) one.is_frame, one.ahead.2)),
    )
read_once reader reader' frame (Ok false) met ahead =
    ([], Consumes-kept reader.rest reader.rest reader'.left [] (Consumes-nil reader.rest) met.all_read, omega arith)
read_once reader reader' frame (Err fault) fails ahead = ahead

-- and it failed once more at most
pub reads_once : (reader reader' : ReaderState) (frame : Frame) (answer : Result Bool ReadFault)
    → AnswersOpen reader reader' (answer_into frame answer)
    → (reader'.failures ≡ reader.failures) ⊎ (reader'.failures ≡ one_more reader.failures)
reads_once reader reader' frame (Ok true) one = inl one.no_failure
reads_once reader reader' frame (Ok false) met = inl met.no_failure
reads_once reader reader' frame (Err fault) fails = once_more fault fails.told
  where
    once_more : (fault : ReadFault) → reader'.failures ≡ failures_at fault reader.failures
        → (reader'.failures ≡ reader.failures) ⊎ (reader'.failures ≡ one_more reader.failures)
    once_more Device told = inr told
    once_more LineTooLong told = inl told
    once_more (Header e) told = inl told
    once_more NotFrame told = inl told
    once_more Truncated told = inl told
    once_more NoReadMemory told = inl told
    once_more Failed told = inl told

-- n frames passed; behind them one more was read, or the end was met
pub record PassesAhead (chain : ChainValue) (reader reader' : ReaderState) (writer writer' : WriterState) (n : ℕ)
    (more : Bool) (next : FrameText) : Type 0 where
  pub frames : List FrameText
  pub images : List FrameText
  pub mid : ReaderState
  pub count : length frames ≡ n
  pub same : reader'.header ≡ mid.header
  pub so_far : PassesFrames chain reader mid writer writer' frames images
  pub taken : more ≡ true → TakesFrame mid reader' next
  pub met : more ≡ false → MeetsEnd mid reader'

pub PassesAhead-first : (chain : ChainValue) (reader reader' : ReaderState) (writer : WriterState) (more : Bool)
    (frame : Frame) → writer.failed ≡ false → reader'.header ≡ reader.header
    → AnswersOpen reader reader' (answer_into frame (Ok more)) → PassesAhead chain reader reader' writer writer 0 more (frame_text_of frame)
PassesAhead-first chain reader reader' writer more frame writing same answer = record {
  frames = [];
  images = [];
  mid = reader;
  count = refl;
  same = same;
  so_far = PassesFrames-none chain reader writer writing;
  taken = λ some. rw some at answer;
  met = λ none. rw none at answer;
}

-- the first image can be written, where a frame was read
pub first_ready : (chain : ChainValue) (reader reader' : ReaderState) (writer : WriterState) (next : Frame)
    (more : Bool) → reader'.header ≡ reader.header
    → AnswersOpen reader reader' (answer_into next (Ok more)) → CanPass chain reader writer → more ≡ true → CanPass chain reader' writer
first_ready chain reader reader' writer next true same one ready some =
    record { reading = one.stays_open; writing = ready.writing; header = rw same ready.header; size = ready.size }
first_ready chain reader reader' writer next false same met ready some = absurd cc

-- the next image can be written, where one went out and one more frame was read
pub beside_ready : (chain : ChainValue) (reader reader' : ReaderState) (writer writer' : WriterState) (next : Frame)
    (image : FrameText) (more : Bool) → reader'.header ≡ reader.header
    → AnswersOpen reader reader' (answer_into next (Ok more)) → PutsFrame writer writer' image → CanPass chain reader writer
    → more ≡ true → CanPass chain reader' writer'
beside_ready chain reader reader' writer writer' next image true same one put ready some =
    CanPass-next chain reader reader' writer writer' image same one.stays_open put ready
beside_ready chain reader reader' writer writer' next image false same met put ready some = absurd cc

-- where no more than a line is read ahead, no more than a frame is
Stops-ahead : (chain : ChainValue) (reader reader' : ReaderState) (writer writer' : WriterState) (fault : FilterFault)
    → Stops IsLineAhead chain fault reader reader' writer writer' → Stops IsFrameAhead chain fault reader reader' writer writer'
Stops-ahead chain reader reader' writer writer' (Read fault) stop = stop
Stops-ahead chain reader reader' writer writer' (Ops e) stop = stop
Stops-ahead chain reader reader' writer writer' (Write fault) stop =
    let ahead = stop.1.0 in
    (stop.0, ((ahead.0, ahead.1, omega (arith, ahead.2)), stop.1.1))
Stops-ahead chain reader reader' writer writer' TooManyFrames stop = stop

-- where exactly the reads failed that are told, one beside a write didn't
pub reads_ahead : (answer : Result ℕ FilterFault) (old new : ℕ) → ReadsTold answer old new → CountsReads answer old new
reads_ahead (Ok n) old new told = told
reads_ahead (Err (Read fault)) old new told = told
reads_ahead (Err (Ops e)) old new told = told
reads_ahead (Err (Write fault)) old new told = inl told
reads_ahead (Err TooManyFrames) old new told = told

pub HasPassed-ahead : (chain : ChainValue) (reader reader' : ReaderState) (writer writer' : WriterState) (answer : Result ℕ FilterFault)
    → HasPassed IsLineAhead ReadsTold chain reader reader' writer writer' answer
    → HasPassed IsFrameAhead CountsReads chain reader reader' writer writer' answer
HasPassed-ahead chain reader reader' writer writer' (Ok n) passed =
    record { outcome = passed.outcome; reads = passed.reads; writes = passed.writes }
HasPassed-ahead chain reader reader' writer writer' (Err fault) passed = record {
  outcome = (Stops-ahead chain reader reader' writer writer' fault passed.outcome.0, passed.outcome.1);
  reads = reads_ahead (Err fault) _ _ passed.reads;
  writes = passed.writes;
}

module _ (chain : ChainValue) (reader reader' : ReaderState) (writer writer' : WriterState) (n : ℕ) (more : Bool) (next : FrameText)
    (a : PassesAhead chain reader reader' writer writer' n more next) where
  pub Ahead-all : (all : ℕ) → more ≡ false → n ≡ all → all ≤ MOST_FRAMES
      → HasPassed IsFrameAhead CountsReads chain reader reader' writer writer' (Ok all)
  Ahead-all all none count few =
      HasPassed-ahead chain reader reader' writer writer' (Ok all)
      (HasPassed-all chain reader a.mid writer writer' a.frames a.images a.so_far all reader' (a.count ∙ count) few (a.met none))

  -- behind those one frame more was read
  module _ (some : more ≡ true) where
    abbrev one : TakesFrame a.mid reader' next
    one = a.taken some

    pub Ahead-limit : n ≡ MOST_FRAMES → HasPassed IsFrameAhead CountsReads chain reader reader' writer writer' (Err TooManyFrames)
    Ahead-limit full =
        HasPassed-ahead chain reader reader' writer writer' (Err TooManyFrames)
        (HasPassed-limit chain reader a.mid writer writer' a.frames a.images a.so_far reader' next (a.count ∙ full) one)

    pub Ahead-memory : (e : FilterError) → n < MOST_FRAMES → e ≡ NoMemory
        → HasPassed IsFrameAhead CountsReads chain reader reader' writer writer' (Err (Ops e))
    Ahead-memory e few memory =
        HasPassed-ahead chain reader reader' writer writer' (Err (Ops e))
        (HasPassed-memory chain reader a.mid writer writer' a.frames a.images a.so_far e reader' next
        (omega (arith, a.count, few)) memory one)

    -- its image is written, while one more is read
    module _ (few : n < MOST_FRAMES) (image : FrameText) (made : IsImageText chain next image) (reader'' : ReaderState)
        (writer'' : WriterState) where
      pushed : PutsFrame writer' writer'' image
          → PassesFrames chain reader reader' writer writer'' (a.frames ++ next ∷ []) (a.images ++ image ∷ [])
      pushed put = PassesFrames-push chain reader a.mid writer writer' a.frames a.images a.so_far reader' writer'' next
          image a.same (record { taken = one; made = made; put = put })

      longer : length (a.frames ++ next ∷ []) ≡ n + 1
      longer = omega (arith, length-append a.frames (next ∷ []), a.count)

      pub Ahead-next : (more' : Bool) (next' : Frame) → reader''.header ≡ reader'.header → PutsFrame writer' writer'' image
          → AnswersOpen reader' reader'' (answer_into next' (Ok more'))
          → PassesAhead chain reader reader'' writer writer'' (n + 1) more' (frame_text_of next')
      Ahead-next more' next' same put answer = record {
        frames = a.frames ++ next ∷ [];
        images = a.images ++ image ∷ [];
        mid = reader';
        count = longer;
        same = same;
        so_far = pushed put;
        taken = λ some. rw some at answer;
        met = λ none. rw none at answer;
      }

      -- it went out, and no more was read, for this reason
      pub Ahead-unread : (fault : ReadFault) → PutsFrame writer' writer'' image → FailsAtFrame reader' reader'' fault
          → HasPassed IsFrameAhead CountsReads chain reader reader'' writer writer'' (Err (Read fault))
      Ahead-unread fault put fails =
          HasPassed-ahead chain reader reader'' writer writer'' (Err (Read fault))
          (HasPassed-read chain reader reader' writer writer'' (a.frames ++ next ∷ []) (a.images ++ image ∷ [])
          (pushed put) fault reader'' (omega (arith, longer, few)) fails)

      -- it didn't go out whole, whatever was read
      pub Ahead-cut : (fault : WriteFault) → IsFrameAhead (data_len_of reader'.header) reader'.rest reader''.left
          → (reader''.failures ≡ reader'.failures) ⊎ (reader''.failures ≡ one_more reader'.failures)
          → FailsToPut writer' writer'' image fault
          → HasPassed IsFrameAhead CountsReads chain reader reader'' writer writer'' (Err (Write fault))
      Ahead-cut fault ahead told fails =
          HasPassed-cut chain reader a.mid writer writer' a.frames a.images a.so_far IsFrameAhead CountsReads fault
          reader' reader'' writer'' (omega (arith, a.count, few))
          (record { frame = next; image = image; taken = one; made = made; fails = fails })
          (rw (a.same, a.so_far.same) at ahead) (rw (one.no_failure ∙ a.so_far.reads) at told)
