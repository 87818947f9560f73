-- How frames pass from a reader through a seat to a writer.
use Rattle.std.proofs.Common.{◌≡◌, ℕ, ◌+◌, List, [], ◌∷◌, ◌++◌, length, refl, sym, ap, ◌∙◌, append-nil, subst}
use Rattle.std.proofs.Common.{Option, None, Some, inl, inr}
use Rattle.std.proofs.Common.{IfErr, IfSome, OnOk, Err, Ok, Result, arith, length-append}
use Rattle.std.specs.declared.alloc.Global.{Global}
use Rattle.std.specs.declared.sync.Arc.{Arc}
use Rattle.std.specs.Arc.{arc_value}
use Rattle.std.proofs.KnownBytes.{Consumes-trans, Consumes-nil}
use Rattle.std.proofs.lemmas.List.Elements.{All-append, All-nil, All-push}
use Rattle.frame_view.specs.declared.frame.Frame.{Frame}
use Rattle.frame_view.specs.declared.geometry.Geometry.{Geometry}
use Rattle.filters.specs.Chain.{ChainValue}
use Rattle.y4m_header.specs.Header.{HeaderValue}
use Rattle.y4m_header.specs.StreamText.{FrameText, IsFrameOf, frames_text, text_of}
use Rattle.y4m_stream.specs.Filtered.{HasNext}
use Rattle.y4m_stream.specs.declared.reader.Phase.TheVariants.{Open}
use Rattle.y4m_stream.specs.Reader.{IsOfHeader, MeetsEnd, ReaderState, TakesFrame, data_len_of, frame_text_of}
use Rattle.y4m_stream.specs.Writer.{IsWriterFor, WriterState}
use Rattle.y4m_stream.proofs.MoreFrames.{frames_text-push}
use Rattle.serve_core.specs.declared.collected.Collected.{Collected}
use Rattle.serve_hub.specs.declared.entry.Act.{Act}
use Rattle.serve_hub.specs.Seats.{StreamSeatValue, collected_by}
use Rattle.serve_client.specs.declared.stop.Cause.TheVariants.{TooManyFrames, ClockEnd, NoMemory}
use Rattle.serve_client.specs.declared.feeding.Fed.{Fed}
use Rattle.serve_client.specs.declared.feeding.Fed.TheVariants as feds
use Rattle.serve_client.specs.declared.stop.Halt.{Halt}
use Rattle.serve_client.specs.declared.stop.Halt.TheVariants.{Full, Stopped}
use Rattle.serve_client.specs.declared.stop.Stop.{Stop}
use Rattle.serve_client.specs.declared.stop.Stop.TheVariants.{Whole, Read, Write, Refused, Torn}
use Rattle.serve_client.specs.Clients.{ClientProgress, ClientStopsAt, CountsReads}
use Rattle.serve_client.specs.ClientInside.{AcceptsTorn, Feeds, FeedsOn, GivesUp, HaltsWith, HasInHand, HasPassed, Holds, IsCounted}
use Rattle.serve_client.specs.ClientInside.{IsOfDelivery, IsOfSeat, IsSizedFed, IsUnread, Moves, Offers, Passes, Refuses, StopsReading, Takes}
use Rattle.serve_client.specs.ClientInside.{IsLeft, TalliesSeat, Unfed, fed_before, text_in}
use Rattle.serve_client.specs.Hands.{Behind}
use Rattle.serve_client.proofs.Hands.{Behind-any, Behind-map, stood_size}
use Rattle.serve_client.proofs.Staying.{stays_chain, stays_frames}
use Rattle.serve_client.proofs.Tallying.{counted_later, some_torn}
use Rattle.serve_client.proofs.Moving.{Moves-none, Moves-trans, StopsWith-later, frames_text-append, size_later}

-- no frame passes, and images go out
pub Passes-still : (reader : ReaderState) (seat seat' : StreamSeatValue) (writer writer' : WriterState)
    → Moves seat seat' writer writer' [] → Passes reader reader seat seat' writer writer' []
Passes-still reader seat seat' writer writer' moved = record {
  each = All-nil (IsFrameOf (data_len_of reader.header));
  taken = Consumes-nil reader.rest;
  moved = moved;
  header = refl;
  no_failure = refl;
}

-- the reader being the same
pub Passes-same : (reader reader' : ReaderState) (seat seat' : StreamSeatValue) (writer writer' : WriterState) → reader' ≡ reader
    → Moves seat seat' writer writer' [] → Passes reader reader' seat seat' writer writer' []
Passes-same reader reader' seat seat' writer writer' same moved =
    rw same (Passes-still reader seat seat' writer writer' moved)

pub sized_still : (seat seat' : StreamSeatValue) (writer writer' : WriterState) → Moves seat seat' writer writer' []
    → IsWriterFor seat.chain writer → IsWriterFor seat.chain writer'
sized_still seat seat' writer writer' moved size = subst (λ (c : ChainValue). IsWriterFor c writer')
    (stays_chain seat seat' moved.seat_stays) (size_later seat seat' writer writer' [] moved size)

pub Passes-none : (reader : ReaderState) (seat : StreamSeatValue) (writer : WriterState) → Passes reader reader seat seat writer writer []
Passes-none reader seat writer =
    Passes-still reader seat seat writer writer (Moves-none seat seat writer writer refl refl)

pub takes_of : (reader reader' : ReaderState) (seat seat' : StreamSeatValue) (writer writer' : WriterState) (frames : List FrameText)
    → Passes reader reader' seat seat' writer writer' frames → Takes reader reader' frames
takes_of reader reader' seat seat' writer writer' frames p = record {
  each = p.each;
  taken = p.taken;
  header = p.header;
  no_failure = p.no_failure;
}

-- why a seat or a writer takes no more frames
stops_of_seat : (stop : Stop) (at : ClientProgress) → IsOfSeat stop → HasNext at.len at.rest at.left
    → (stop ≡ Refused TooManyFrames → at.count ≡ at.most) → ClientStopsAt stop at
stops_of_seat Whole at own next limit = absurd own
stops_of_seat (Read fault) at own next limit = absurd own
stops_of_seat (Refused TooManyFrames) at own next limit = (limit refl, next)
stops_of_seat (Refused ClockEnd) at own next limit = next
stops_of_seat (Refused NoMemory) at own next limit = next
stops_of_seat (Write fault) at own next limit = inl (inl next)
stops_of_seat Torn at own next limit = inl (inl next)

reads_of_seat : (stop : Stop) (old new : ℕ) → IsOfSeat stop → new ≡ old → CountsReads stop old new
reads_of_seat Whole old new own same = absurd own
reads_of_seat (Read fault) old new own same = absurd own
reads_of_seat (Refused cause) old new own same = same
reads_of_seat (Write fault) old new own same = inl same
reads_of_seat Torn old new own same = inl same

-- behind some frames that passed
module _ (reader mid : ReaderState) (seat between : StreamSeatValue) (writer v : WriterState) (frames : List FrameText)
    (so_far : Passes reader mid seat between writer v frames) where
  abbrev IsFrame : FrameText → Type 0
  IsFrame frame = IsFrameOf (data_len_of reader.header) frame

  -- the frame in hand stands behind them
  next_of : (frame : FrameText) (reader' : ReaderState) → TakesFrame mid reader' frame
      → HasNext (data_len_of reader.header) mid.rest reader'.left
  next_of frame reader' one = record {
    frame = frame;
    more = reader'.rest;
    is_frame = rw so_far.header at one.is_frame;
    taken = one.taken;
    ahead = one.ahead;
  }

  pub Passes-push : (reader' : ReaderState) (seat' : StreamSeatValue) (writer' : WriterState) (frame : FrameText)
      → TakesFrame mid reader' frame
      → reader'.header ≡ mid.header → Moves between seat' v writer' (frame ∷ [])
      → Passes reader reader' seat seat' writer writer' (frames ++ frame ∷ [])
  Passes-push reader' seat' writer' frame one same moved =
      let is_frame : IsFrame frame = rw so_far.header at one.is_frame in
      record {
        each = All-push IsFrame frames frame so_far.each is_frame;
        taken = rw (frames_text-push frames frame)
            (Consumes-trans reader.rest mid.rest reader'.rest (frames_text frames) (text_of frame) so_far.taken one.taken);
        moved = Moves-trans seat between seat' writer v writer' frames (frame ∷ []) so_far.moved moved;
        header = same ∙ so_far.header;
        no_failure = one.no_failure ∙ so_far.no_failure;
      }

  pub Feeds-end : (past : List Act) (reader' : ReaderState) → MeetsEnd mid reader' → Feeds past Whole reader reader' seat between writer v
  Feeds-end past reader' met = record {
    frames = frames;
    read = record {
      rest = mid.rest;
      each = so_far.each;
      taken = so_far.taken;
      stops = (met.at_end, met.all_read);
      reads = met.no_failure ∙ so_far.no_failure;
    };
    moved = so_far.moved;
    count = so_far.moved.count;
  }

  pub Feeds-unread : (past : List Act) (stop : Stop) (reader' : ReaderState) → IsUnread mid reader' stop
      → Feeds past stop reader reader' seat between writer v
  Feeds-unread past Whole reader' u = absurd u
  Feeds-unread past (Read fault) reader' u = record {
    frames = frames;
    read = record {
      rest = mid.rest;
      each = so_far.each;
      taken = so_far.taken;
      stops = rw so_far.header at u.stands;
      reads = rw so_far.no_failure at u.told;
    };
    moved = so_far.moved;
    count = so_far.moved.count;
  }
  Feeds-unread past (Refused TooManyFrames) reader' u = absurd u
  Feeds-unread past (Refused ClockEnd) reader' u = absurd u
  Feeds-unread past (Refused NoMemory) reader' u = record {
    frames = frames;
    read = record {
      rest = mid.rest;
      each = so_far.each;
      taken = so_far.taken;
      stops = next_of (u.0) reader' u.1;
      reads = u.1.no_failure ∙ so_far.no_failure;
    };
    moved = so_far.moved;
    count = so_far.moved.count;
  }
  Feeds-unread past (Write fault) reader' u = absurd u
  Feeds-unread past Torn reader' u = absurd u

  -- the seat or the writer stops it, with a frame in hand
  pub Feeds-refused : (past : List Act) (stop : Stop) (reader' : ReaderState) (seat' : StreamSeatValue) (writer' : WriterState)
      (frame : FrameText) → TakesFrame mid reader' frame
      → Refuses stop between seat' v writer' → Feeds past stop reader reader' seat seat' writer writer'
  Feeds-refused past stop reader' seat' writer' frame one r =
      let count : seat'.accepted ≡ seat.accepted + length frames = ap (λ (s : StreamSeatValue). s.accepted) r.stays ∙ so_far.moved.count in
      record {
        frames = frames;
        read = record {
          rest = mid.rest;
          each = so_far.each;
          taken = so_far.taken;
          stops = stops_of_seat stop _ r.of_seat (next_of frame reader' one)
              (λ is. sym count ∙ r.limit is ∙ stays_frames seat between so_far.moved.seat_stays);
          reads = reads_of_seat stop reader.failures reader'.failures r.of_seat (one.no_failure ∙ so_far.no_failure);
        };
        moved = rw (append-nil frames) at (StopsWith-later stop seat between seat' writer v writer' frames [] so_far.moved r.moved);
        count = count;
      }

  -- the frame in hand was accepted with another number than the seat's next
  pub Feeds-torn : (past : List Act) (stop : Stop) (reader' : ReaderState) (seat' : StreamSeatValue) (writer' : WriterState)
      (frame : FrameText) → IsCounted past between
      → TakesFrame mid reader' frame → AcceptsTorn stop frame between seat' v writer'
      → Feeds past stop reader reader' seat seat' writer writer'
  Feeds-torn past stop reader' seat' writer' frame counted one torn =
      let is_frame : IsFrame frame = rw so_far.header at one.is_frame in
      let moved : Moves seat torn.mid writer writer' (frames ++ frame ∷ []) = Moves-trans seat between torn.mid writer v writer' frames
      (frame ∷ []) so_far.moved torn.moved in
      rw torn.torn (record {
        frames = frames ++ frame ∷ [];
        read = record {
          rest = reader'.rest;
          each = All-push IsFrame frames frame so_far.each is_frame;
          taken = rw (frames_text-push frames frame)
              (Consumes-trans reader.rest mid.rest reader'.rest (frames_text frames) (text_of frame) so_far.taken one.taken);
          stops = inr (inr (torn.other past counted, one.ahead));
          reads = inl (one.no_failure ∙ so_far.no_failure);
        };
        moved = (torn.mid, moved, some_torn (collected_by torn.mid) torn.mid seat' torn.noted);
        count = ap (λ (s : StreamSeatValue). s.accepted) torn.noted ∙ moved.count;
      })

  -- images go out, and a frame is in hand
  in_hand_behind : (in_hand : Option FrameText) (reader' : ReaderState) (seat' : StreamSeatValue) (writer' : WriterState)
      → Holds mid reader' in_hand → reader'.phase ≡ Open → Moves between seat' v writer' []
      → HasInHand reader reader' seat seat' writer writer' in_hand
  in_hand_behind in_hand reader' seat' writer' holds is_open moved = record {
    before = mid;
    frames = frames;
    passed = record {
      each = so_far.each;
      taken = so_far.taken;
      moved = rw (append-nil frames) at (Moves-trans seat between seat' writer v writer' frames [] so_far.moved moved);
      header = so_far.header;
      no_failure = so_far.no_failure;
    };
    holds = holds;
    is_open = is_open;
  }

  -- the frame in hand wasn't accepted as it should be
  pub Feeds-unfed : (past : List Act) (fed : Fed) (reader' : ReaderState) (seat' : StreamSeatValue) (writer' : WriterState) (frame : Frame)
      → IsCounted past between
      → TakesFrame mid reader' (frame_text_of frame) → reader'.header ≡ mid.header → Unfed fed frame between seat' v writer'
      → FeedsOn fed past reader reader' seat seat' writer writer'
  Feeds-unfed past (feds.Stopped stop) reader' seat' writer' frame counted one same (inl refused) =
      Feeds-refused past stop reader' seat' writer' (frame_text_of frame) one refused
  Feeds-unfed past (feds.Stopped stop) reader' seat' writer' frame counted one same (inr torn) =
      Feeds-torn past stop reader' seat' writer' (frame_text_of frame) counted one torn
  Feeds-unfed past (feds.Held stop) reader' seat' writer' frame counted one same k = absurd k
  Feeds-unfed past (feds.Paused None image) reader' seat' writer' frame counted one same k = absurd k
  Feeds-unfed past (feds.Paused (Some back) image) reader' seat' writer' frame counted one same k =
      let taken = subst (λ (f : Frame). TakesFrame mid reader' (frame_text_of f)) (sym k.same) one in
      Behind-map image seat' writer' (λ s w. Moves between s v w [])
      (λ s w. HasInHand reader reader' seat s writer w (text_in (Some back)))
      (λ s w stood moved. in_hand_behind (text_in (Some back)) reader' s w (taken, same) one.stays_open moved) k.moved

  -- a frame that was read and offered
  pub passed_once : {T : Type 0} (result : Result T Fed) (reader' : ReaderState) (seat' : StreamSeatValue) (writer' : WriterState)
      (frame : Frame) → TakesFrame mid reader' (frame_text_of frame) → reader'.header ≡ mid.header
      → Offers result frame between seat' v writer' → OnOk result (HasPassed reader reader' seat seat' writer writer')
  passed_once (Ok t) reader' seat' writer' frame one same moved = record {
    frames = frames ++ frame_text_of frame ∷ [];
    passed = Passes-push reader' seat' writer' (frame_text_of frame) one same moved;
    is_open = one.stays_open;
  }
  passed_once (Err fed) reader' seat' writer' frame one same moved = tt

  pub fed_once : {T : Type 0} (result : Result T Fed) (reader' : ReaderState) (seat' : StreamSeatValue) (writer' : WriterState)
      (frame : Frame) → TalliesSeat seat between → TakesFrame mid reader' (frame_text_of frame) → reader'.header ≡ mid.header
      → Offers result frame between seat' v writer'
      → IfErr result (λ fed. (past : List Act) → IsCounted past seat → FeedsOn fed past reader reader' seat seat' writer writer')
  fed_once (Ok t) reader' seat' writer' frame tally one same moved = tt
  fed_once (Err fed) reader' seat' writer' frame tally one same unfed = λ past counted.
      Feeds-unfed past fed reader' seat' writer' frame (counted_later past seat between tally counted) one same unfed

  -- an image wasn't collected and written
  pub fed_broken : (past : List Act) (halt : Halt) (seat' : StreamSeatValue) (writer' : WriterState) → mid.phase ≡ Open
      → IsOfDelivery halt → GivesUp between seat' → HaltsWith halt between seat' v writer' []
      → FeedsOn (fed_before halt) past reader mid seat seat' writer writer'
  fed_broken past (Full image) seat' writer' is_open own stays moved =
      Behind-map image seat' writer' (λ s w. Moves between s v w []) (λ s w. HasInHand reader mid seat s writer w None)
      (λ s w stood m. in_hand_behind None mid s w refl is_open m) moved
  fed_broken past (Stopped stop) seat' writer' is_open own stays moved = record {
    frames = frames;
    mid = between;
    between = v;
    passed = so_far;
    is_open = is_open;
    moved = moved;
    stays = stays;
    spoilt = own;
  }

-- no frame is in hand, and the writer is for the chain still
pub sized_behind : (image : Option Collected) (seat seat' : StreamSeatValue) (writer writer' : WriterState)
    → Behind image seat' writer' (λ s w. Moves seat s writer w []) → IsWriterFor seat.chain writer → IsWriterFor seat.chain writer'
sized_behind image seat seat' writer writer' moved size =
    Behind-any image seat' writer' (λ s w. Moves seat s writer w []) (IsWriterFor seat.chain writer')
    (λ s w stood m. stood_size seat' s writer' w stood seat.chain (sized_still seat s writer w m size)) moved

pub sized_before : (halt : Halt) (seat seat' : StreamSeatValue) (writer writer' : WriterState) → HaltsWith halt seat seat' writer writer' []
    → IsLeft seat.chain writer' halt → IsWriterFor seat.chain writer → IsSizedFed seat.chain writer' (fed_before halt)
sized_before (Full image) seat seat' writer writer' moved left size =
    (tt, sized_behind image seat seat' writer writer' moved size, left)
sized_before (Stopped stop) seat seat' writer writer' moved left size = tt

-- more frames follow those that were taken
pub Takes-behind : (reader mid reader' : ReaderState) (frames more : List FrameText) → Takes reader mid frames → Takes mid reader' more
    → Takes reader reader' (frames ++ more)
Takes-behind reader mid reader' frames more a b = record {
  each = All-append (IsFrameOf (data_len_of reader.header)) frames more a.each (rw a.header at b.each);
  taken = rw (frames_text-append frames more)
      (Consumes-trans reader.rest mid.rest reader'.rest (frames_text frames) (frames_text more) a.taken b.taken);
  header = b.header ∙ a.header;
  no_failure = b.no_failure ∙ a.no_failure;
}

pub read_behind : (past : List Act) (stop : Stop) (reader mid reader' : ReaderState) (seat between seat' : StreamSeatValue)
    (frames more : List FrameText) → Takes reader mid frames
    → between.accepted ≡ seat.accepted + length frames → between.frames ≡ seat.frames
    → StopsReading past stop mid reader' between seat' more → StopsReading past stop reader reader' seat seat' (frames ++ more)
read_behind past stop reader mid reader' seat between seat' frames more a count most b =
    let at : ℕ → ℕ → ℕ → ClientProgress = λ len count most. record {
      len = len;
      count = count;
      most = most;
      rest = b.rest;
      left = reader'.left;
      calls = past ++ seat'.calls.list;
    } in
    let both : between.accepted + length more ≡ seat.accepted + length (frames ++ more) =
    omega (arith, count, length-append frames more) in
    record {
      rest = b.rest;
      each = All-append (IsFrameOf (data_len_of reader.header)) frames more a.each (rw a.header at b.each);
      taken = rw (frames_text-append frames more)
          (Consumes-trans reader.rest mid.rest b.rest (frames_text frames) (frames_text more) a.taken b.taken);
      stops = subst (ClientStopsAt stop)
          (ap (λ (h : HeaderValue). at (data_len_of h) (between.accepted + length more) between.frames) a.header
          ∙ ap (λ k. at (data_len_of reader.header) k between.frames) both
          ∙ ap (at (data_len_of reader.header) (seat.accepted + length (frames ++ more))) most) b.stops;
      reads = rw a.no_failure at b.reads;
    }

-- what comes behind some frames that passed
module _ (reader mid : ReaderState) (seat between : StreamSeatValue) (writer v : WriterState) (frames : List FrameText)
    (so_far : Passes reader mid seat between writer v frames) where
  pub Passes-behind : (mid' : ReaderState) (seat' : StreamSeatValue) (writer' : WriterState) (more : List FrameText)
      → Passes mid mid' between seat' v writer' more → Passes reader mid' seat seat' writer writer' (frames ++ more)
  Passes-behind mid' seat' writer' more b =
      let all = Takes-behind reader mid mid' frames more (takes_of reader mid seat between writer v frames so_far)
      (takes_of mid mid' between seat' v writer' more b) in
      record {
        each = all.each;
        taken = all.taken;
        moved = Moves-trans seat between seat' writer v writer' frames more so_far.moved b.moved;
        header = all.header;
        no_failure = all.no_failure;
      }

  pub HasPassed-behind : (reader' : ReaderState) (seat' : StreamSeatValue) (writer' : WriterState)
      → HasPassed mid reader' between seat' v writer' → HasPassed reader reader' seat seat' writer writer'
  HasPassed-behind reader' seat' writer' b = record {
    frames = frames ++ b.frames;
    passed = Passes-behind reader' seat' writer' b.frames b.passed;
    is_open = b.is_open;
  }

  pub HasInHand-behind : (in_hand : Option FrameText) (reader' : ReaderState) (seat' : StreamSeatValue) (writer' : WriterState)
      → HasInHand mid reader' between seat' v writer' in_hand → HasInHand reader reader' seat seat' writer writer' in_hand
  HasInHand-behind in_hand reader' seat' writer' b = record {
    before = b.before;
    frames = frames ++ b.frames;
    passed = Passes-behind b.before seat' writer' b.frames b.passed;
    holds = b.holds;
    is_open = b.is_open;
  }

  pub Feeds-behind : (past : List Act) (stop : Stop) (reader' : ReaderState) (seat' : StreamSeatValue) (writer' : WriterState)
      → Feeds past stop mid reader' between seat' v writer' → Feeds past stop reader reader' seat seat' writer writer'
  Feeds-behind past stop reader' seat' writer' b = record {
    frames = frames ++ b.frames;
    read = read_behind past stop reader mid reader' seat between seat' frames b.frames
        (takes_of reader mid seat between writer v frames so_far) so_far.moved.count
        (stays_frames seat between so_far.moved.seat_stays) b.read;
    moved = StopsWith-later stop seat between seat' writer v writer' frames b.frames so_far.moved b.moved;
    count = omega (arith, b.count, so_far.moved.count, length-append frames b.frames);
  }

  pub FeedsOn-behind : (past : List Act) (fed : Fed) (reader' : ReaderState) (seat' : StreamSeatValue) (writer' : WriterState)
      → FeedsOn fed past mid reader' between seat' v writer' → FeedsOn fed past reader reader' seat seat' writer writer'
  FeedsOn-behind past (feds.Stopped stop) reader' seat' writer' b = Feeds-behind past stop reader' seat' writer' b
  FeedsOn-behind past (feds.Paused in_hand image) reader' seat' writer' b =
      Behind-map image seat' writer' (λ s w. HasInHand mid reader' between s v w (text_in in_hand))
      (λ s w. HasInHand reader reader' seat s writer w (text_in in_hand))
      (λ s w stood h. HasInHand-behind (text_in in_hand) reader' s w h) b
  FeedsOn-behind past (feds.Held stop) reader' seat' writer' b = record {
    frames = frames ++ b.frames;
    mid = b.mid;
    between = b.between;
    passed = Passes-behind reader' b.mid b.between b.frames b.passed;
    is_open = b.is_open;
    moved = b.moved;
    stays = b.stays;
    spoilt = b.spoilt;
  }

-- a frame in hand has its reader's header
pub holds_header : (before reader : ReaderState) (in_hand : Option FrameText) → Holds before reader in_hand
    → reader.header ≡ before.header
holds_header before reader None h = ap (λ (r : ReaderState). r.header) h
holds_header before reader (Some frame) h = h.1

-- memory of the chain's frames is of the header's size
pub sized_memory : (header header' : HeaderValue) (g : Geometry) (memory : Option (Arc Frame Global)) → header' ≡ header
    → IsOfHeader header g
    → IfSome memory (λ f. (arc_value f).geometry ≡ g) → IfSome memory (λ f. IsOfHeader header' (arc_value f).geometry)
sized_memory header header' g None same is sized = tt
sized_memory header header' g (Some f) same is sized = rw (same, sized) is
