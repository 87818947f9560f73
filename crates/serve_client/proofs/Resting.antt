-- How a client goes on from where it paused.
use Rattle.std.proofs.Common.{All, ◌≡◌, ℕ, ◌≤◌, List, [], length, Option, IfSome, None, Some, refl, sym, ap}
use Rattle.std.proofs.Common.{◌∙◌, ◌+◌, ◌⊎◌, append-nil, arith, subst, inl, inr, false}
use Rattle.std.proofs.KnownBytes.{Appends-nil, Consumes-nil}
use Rattle.std.proofs.lemmas.List.Elements.{All-nil}
use Rattle.std.specs.declared.alloc.Global.{Global}
use Rattle.std.specs.declared.sync.Arc.{Arc}
use Rattle.std.specs.Arc.{arc_value}
use Rattle.frame_view.specs.declared.frame.Frame.{Frame}
use Rattle.frame_view.specs.declared.geometry.Geometry.{Geometry}
use Rattle.filters.specs.Chain.{ChainValue, Format, format_of, last_format}
use Rattle.y4m_header.specs.Header.{HeaderValue}
use Rattle.y4m_header.specs.StreamText.{FrameText, IsFrameOf}
use Rattle.y4m_header.specs.declared.limits.TheConstants.{MOST_FRAMES}
use Rattle.y4m_stream.specs.declared.reader.Phase.TheVariants.{Open}
use Rattle.y4m_stream.specs.Reader.{IsOfHeader, ReaderState, data_len_of}
use Rattle.y4m_stream.specs.Served.{IsHeaderOfImages}
use Rattle.y4m_stream.specs.Writer.{IsOpenedFor, IsWriterFor, WriterState}
use Rattle.serve_core.specs.declared.collected.Collected.{Collected}
use Rattle.serve_hub.specs.declared.entry.Act.{Act}
use Rattle.serve_hub.specs.Seats.{StreamSeatValue, collected_by}
use Rattle.serve_client.specs.declared.buffers.Buffers.{Buffers}
use Rattle.serve_client.specs.declared.feeding.Fed.{Fed}
use Rattle.serve_client.specs.declared.course.Course as code
use Rattle.serve_client.specs.declared.course.Course.TheVariants as courses
use Rattle.serve_client.specs.declared.stop.Stop.{Stop}
use Rattle.serve_client.specs.Clients.{ClientStart}
use Rattle.serve_client.specs.ClientInside.{Accounted, AreBuffersFor, Feeds, FeedsOn, HasInHand, Holds, IsCounted, IsSized, IsUseful}
use Rattle.serve_client.specs.ClientInside.{Moves, Stays, Tallies}
use Rattle.serve_client.specs.ClientInside.{text_in, texts_of}
use Rattle.serve_client.specs.Hands.{IsPairOf, counted_with, with_kept}
use Rattle.serve_client.specs.Rests.{BegunValue, CanDrain, CanFeed, CanGoOn, HasMemoryFor}
use Rattle.serve_client.specs.Rests.{IsAt, IsBefore, IsBegun, IsFresh, IsOutset, IsRunning, IsSilent, IsTallied, IsUnbegun, Outset}
use Rattle.serve_client.specs.Rests.{as_open, course_of, image_before}
use Rattle.serve_client.proofs.Hands.{stood_pair, stood_size}
use Rattle.serve_client.proofs.Tallying.{close_shown, collections_both, collections_counted, counted_later, if_later, if_more}
use Rattle.serve_client.proofs.Moving.{Accounted-later, Moves-trans, few_of, one_size}
use Rattle.serve_client.proofs.Moving.{size_later}
use Rattle.serve_client.proofs.Passing.{FeedsOn-behind}
use Rattle.serve_client.proofs.Staying.{stays_frames}
use Rattle.serve_client.proofs.Stopping.{moves_until}

-- what is tallied over the epochs
pub tallied_later : (past : List Act) (first seat seat' : StreamSeatValue) (writer writer' : WriterState) → IsTallied past first seat writer
    → (first.torn ≡ None → seat.torn ≡ None) ⊎ (writer'.frames ≡ writer.frames) → Tallies seat seat' writer writer'
    → IsTallied past first seat' writer'
tallied_later past first seat seat' writer writer' a quiet t = record {
  number = t.seat.number ∙ a.number;
  spec = t.seat.spec ∙ a.spec;
  offers = counted_later past seat seat' t.seat a.offers;
  closes = close_shown past seat seat' t.seat a.closes;
  images = omega (arith, a.images, t.images, collections_both past seat.calls.list, collections_both past seat'.calls.list);
  before = t.seat.before ∙ a.before;
  torn = λ none.
      let both = collections_both past seat.calls.list in
      let own = collections_counted seat.calls.list in
      let Few : ℕ → Type 0 = λ n. first.before + writer'.frames ≤ n in
      elim quiet [
        | inl untorn ↦
            if_more (λ n. writer'.frames + collected_by seat ≤ writer.frames + n) Few seat'.torn
            (λ n few. omega (arith, few, a.images, a.before, both, own)) (t.torn (untorn none))
        | inr same ↦
            if_later Few (λ n. collected_by seat ≤ n) seat.torn seat'.torn
            (λ n few. omega (arith, few, a.images, a.before, both, own, same)) t.seat.noted t.seat.torn
            (if_more (λ n. first.before + writer.frames ≤ n) Few seat.torn (λ n few. omega (arith, few, same)) (a.torn none))
      ];
}

-- a client that may write has a seat that wasn't told Torn, if it began with such
pub untorn_or_silent : (course : Option code.Course) (past : List Act) (o : Outset) (reader : ReaderState) (seat : StreamSeatValue)
    (writer writer' : WriterState) (image' : Option Collected) → IsBefore course past o reader seat writer
    → (IsSilent course → (image' ≡ None) × (writer' ≡ writer))
    → (o.seat.torn ≡ None → seat.torn ≡ None)
    ⊎ ((counted_with image' writer').frames ≡ (counted_with (image_before course) writer).frames)
untorn_or_silent None past o reader seat writer writer' image' at silent = inl (λ none. at.passed.moved.seat_stays.torn ∙ none)
untorn_or_silent (Some (courses.Feeding in_hand None)) past o reader seat writer writer' image' at silent =
    inl (λ none. at.passed.moved.seat_stays.torn ∙ none)
untorn_or_silent (Some (courses.Feeding in_hand (Some pair))) past o reader seat writer writer' image' at silent =
    inl (λ none. at.2.passed.moved.seat_stays.torn ∙ none)
untorn_or_silent (Some (courses.Holding in_hand held)) past o reader seat writer writer' image' at silent =
    inr (rw ((silent tt).0, (silent tt).1) refl)
untorn_or_silent (Some (courses.Draining stop None)) past o reader seat writer writer' image' at silent =
    inl (λ none. (moves_until stop o.seat (as_open seat) o.writer writer at.1.frames at.0 at.1.moved).seat_stays.torn ∙ none)
untorn_or_silent (Some (courses.Draining stop (Some pair))) past o reader seat writer writer' image' at silent =
    let a = at.1.2 in
    inl (λ none. (moves_until stop o.seat (as_open (with_kept pair seat)) o.writer at.1.0 a.frames at.0 a.moved).seat_stays.torn ∙ none)
untorn_or_silent (Some (courses.Discarding stop)) past o reader seat writer writer' image' at silent =
    inr (rw ((silent tt).0, (silent tt).1) refl)

-- memory for one chain is memory for another whose frames and images have the same sizes
abbrev AreSources : Geometry → Buffers → Type 0
AreSources g buffers = All (λ (f : Arc Frame Global). (arc_value f).geometry ≡ g) buffers.sources.items

abbrev AreImagesOf : Format → Buffers → Type 0
AreImagesOf format buffers = All (λ (i : Frame). format_of i.geometry ≡ format) buffers.images.items

same_format : (writer : WriterState) (a b : ChainValue) → IsWriterFor a writer → IsWriterFor b writer
    → last_format a.ops (format_of a.geometry) ≡ last_format b.ops (format_of b.geometry)
same_format writer a b p q =
    let of : (f : Format) → writer.width ≡ f.width → writer.height ≡ f.height → writer.chroma ≡ f.chroma
    → f ≡ record { width = writer.width; height = writer.height; chroma = writer.chroma } =
    λ f w h c. rw (w, h, c) refl in
    of _ p.width p.height p.chroma ∙ sym (of _ q.width q.height q.chroma)

pub same_memory : (a b : ChainValue) (header : HeaderValue) (writer : WriterState) (buffers : Buffers) → IsOfHeader header a.geometry
    → IsOfHeader header b.geometry → IsWriterFor a writer → IsWriterFor b writer → AreBuffersFor a buffers → AreBuffersFor b buffers
same_memory a b header writer buffers h k p q m = record {
  sources = subst (λ (g : Geometry). AreSources g buffers) (one_size header a.geometry b.geometry h k) m.sources;
  images = subst (λ (f : Format). AreImagesOf f buffers) (same_format writer a b p q) m.images;
}

-- a stream whose frames were counted from its beginning
first_accounted : (o : Outset) (seat : StreamSeatValue) → IsOutset o → seat.frames ≤ MOST_FRAMES → seat.frames ≡ o.seat.frames
    → Accounted o.seat o.writer
first_accounted o seat is most same = record {
  balanced = omega (arith, is.none, ap length is.fresh.kept, is.fresh.accepted);
  within = omega (arith, is.fresh.accepted);
  most = omega (arith, most, same);
  is_open = is.fresh.is_open;
  writing = is.writing;
  none = is.whole;
}

-- frames of the same stream in a later epoch
pub Moves-fresh : (seat seat' : StreamSeatValue) (writer : WriterState) → IsFresh seat → IsFresh seat' → Stays seat seat'
    → Moves seat seat' writer writer []
Moves-fresh seat seat' writer a b stays = record {
  sent = [];
  images = [];
  order = append-nil (texts_of seat.kept) ∙ ap texts_of (a.kept ∙ sym b.kept);
  made = tt;
  wrote = Appends-nil writer.contents;
  bytes = omega arith;
  frames = omega arith;
  count = omega (arith, a.accepted, b.accepted);
  within = λ _. omega (arith, b.accepted);
  seat_stays = stays;
  writer_stays = refl;
}

-- the frame in hand is of the seat's chain
sized_now : (in_hand : Option (Arc Frame Global)) (reader : ReaderState) (a b : ChainValue) → IsOfHeader reader.header a.geometry
    → IsOfHeader reader.header b.geometry → IsSized a in_hand → IsSized b in_hand
sized_now in_hand reader a b h k sized =
    subst (λ (g : Geometry). IfSome in_hand (λ (f : Arc Frame Global). (arc_value f).geometry ≡ g))
    (one_size reader.header a.geometry b.geometry h k) sized

-- the pair is of the seat's chain
pair_now : (pair : Collected) (reader : ReaderState) (writer : WriterState) (a b : ChainValue) → IsOfHeader reader.header a.geometry
    → IsOfHeader reader.header b.geometry → IsWriterFor a writer → IsWriterFor b writer → IsPairOf a pair → IsPairOf b pair
pair_now pair reader writer a b h k p q is = record {
  source = is.source ∙ one_size reader.header a.geometry b.geometry h k;
  image = is.image ∙ same_format writer a b p q;
}

-- what a client needs to go on where it fed
module _ (past : List Act) (o : Outset) (is : IsOutset o) (size : IsWriterFor o.seat.chain o.writer) where
  can_feed : (in_hand : Option (Arc Frame Global)) (reader : ReaderState) (seat : StreamSeatValue) (writer : WriterState)
      (buffers : Buffers) → seat.frames ≤ MOST_FRAMES → IsCounted past seat
      → HasInHand o.reader reader o.seat seat o.writer writer (text_in in_hand) → AreBuffersFor seat.chain buffers → IsSized seat.chain in_hand → CanFeed in_hand reader seat writer buffers
  can_feed in_hand reader seat writer buffers most counted at memory sized =
      let moved = at.passed.moved in
      record {
        is_open = at.is_open;
        accounted = Accounted-later o.seat seat o.writer writer at.frames moved (first_accounted o seat is most (stays_frames o.seat seat moved.seat_stays));
        size = size_later o.seat seat o.writer writer at.frames moved size;
        memory = memory;
        frame = sized;
        past = past;
        counted = counted;
        before = at.before;
        holds = at.holds;
      }

  can_drain : (stop : Stop) (reader : ReaderState) (seat : StreamSeatValue) (writer : WriterState) → seat.frames ≤ MOST_FRAMES
      → IsUseful stop → Feeds past stop o.reader reader o.seat (as_open seat) o.writer writer → CanDrain seat writer
  can_drain stop reader seat writer most useful at =
      let moved : Moves o.seat (as_open seat) o.writer writer at.frames = moves_until stop o.seat (as_open seat) o.writer writer at.frames
      useful at.moved in
      let now : Accounted (as_open seat) writer = Accounted-later o.seat (as_open seat) o.writer writer at.frames moved
      (first_accounted o seat is most (stays_frames o.seat (as_open seat) moved.seat_stays)) in
      record {
        few = few_of (as_open seat) writer now;
        writing = now.writing;
        none = now.none;
        size = size_later o.seat (as_open seat) o.writer writer at.frames moved size;
      }

  -- where a client was, it can go on
  pub can_go_on : (course : code.Course) (reader : ReaderState) (seat : StreamSeatValue) (writer : WriterState) (buffers : Buffers)
      → seat.frames ≤ MOST_FRAMES → IsCounted past seat → IsOfHeader reader.header seat.chain.geometry
      → IsAt (course_of course) past o reader seat writer → HasMemoryFor reader writer buffers course
      → CanGoOn (Some course) reader seat writer buffers
  can_go_on (courses.Feeding in_hand None) reader seat writer buffers most counted header at m =
      let now : IsWriterFor seat.chain writer = size_later o.seat seat o.writer writer at.frames at.passed.moved size in
      can_feed in_hand reader seat writer buffers most counted at
      (same_memory m.chain seat.chain reader.header writer buffers m.header header m.size now m.memory)
      (sized_now in_hand reader m.chain seat.chain m.header header m.sized)
  can_go_on (courses.Feeding in_hand (Some pair)) reader seat writer buffers most counted header at m =
      let kept = with_kept pair seat in
      let now : IsWriterFor seat.chain writer = stood_size seat kept writer at.0 (stood_pair seat.chain pair seat at.0 writer at.1)
      seat.chain (size_later o.seat kept o.writer at.0 at.2.frames at.2.passed.moved size) in
      record {
        before = at.0;
        begun = at.1;
        can = can_feed in_hand reader kept at.0 buffers most counted at.2
            (same_memory m.chain seat.chain reader.header writer buffers m.header header m.size now m.memory)
            (sized_now in_hand reader m.chain seat.chain m.header header m.sized);
        sized = pair_now pair reader writer m.chain seat.chain m.header header m.size now m.left.0;
        left = m.left.1;
      }
  can_go_on (courses.Holding in_hand held) reader seat writer buffers most counted header at m = record {
    is_open = at.is_open;
    frame = sized_now in_hand reader m.chain seat.chain m.header header m.sized;
    is_unclosed = at.is_closed ∙ is.fresh.is_open;
    spoilt = at.spoilt;
  }
  can_go_on (courses.Draining stop None) reader seat writer buffers most counted header at m =
      can_drain stop reader seat writer most at.0 at.1
  can_go_on (courses.Draining stop (Some pair)) reader seat writer buffers most counted header at m = record {
    before = at.1.0;
    begun = at.1.1;
    can = can_drain stop reader (with_kept pair seat) at.1.0 most at.0 at.1.2;
    left = m;
  }
  can_go_on (courses.Discarding stop) reader seat writer buffers most counted header at m = at.0.0

-- where nothing was done yet, it can begin
pub can_begin : (past : List Act) (reader : ReaderState) (seat : StreamSeatValue) (writer : WriterState) (buffers : Buffers) → IsFresh seat
    → seat.frames ≤ MOST_FRAMES → reader.phase ≡ Open → writer.failed ≡ false → writer.part ≡ 0 → writer.frames ≡ 0
    → IsCounted past seat
    → IsWriterFor seat.chain writer → AreBuffersFor seat.chain buffers → CanFeed None reader seat writer buffers
can_begin past reader seat writer buffers fresh most is_open writing whole none counted size memory = record {
  is_open = is_open;
  accounted = record {
    balanced = omega (arith, none, ap length fresh.kept, fresh.accepted);
    within = omega (arith, fresh.accepted);
    most = most;
    is_open = fresh.is_open;
    writing = writing;
    none = whole;
  };
  size = size;
  memory = memory;
  frame = tt;
  past = past;
  counted = counted;
  before = reader;
  holds = refl;
}

-- the outset of a stream whose header line was written
pub outset_of : (start : ClientStart) (shown : HeaderValue) (opened : WriterState) → IsFresh start.seat
    → IsOpenedFor shown start.before start.failures opened
    → IsOutset (record { reader = start.reader; seat = start.seat; writer = opened })
outset_of start shown opened first is = record { fresh = first; writing = is.writing; none = is.frames; whole = is.none }

-- the writer is for the images of the stream
pub opened_size : (chain : ChainValue) (header shown : HeaderValue) (contents : Option (List ℕ)) (failures : ℕ) (writer : WriterState)
    → IsHeaderOfImages chain header shown → IsOpenedFor shown contents failures writer → IsWriterFor chain writer
opened_size chain header shown contents failures writer h opened = record {
  width = opened.width ∙ h.width;
  height = opened.height ∙ h.height;
  chroma = opened.chroma ∙ h.chroma;
}

-- what is left to do of a stream whose header line was written
abbrev pub begun_with : code.Course → ReaderState → WriterState → (accepted collected : ℕ) → BegunValue
begun_with course reader writer accepted collected = record {
  reader = reader;
  writer = writer;
  course = course_of course;
  accepted = accepted;
  collected = collected;
}

pub can_resume : (course : code.Course) (reader : ReaderState) (seat : StreamSeatValue) (writer : WriterState) (buffers : Buffers)
    (accepted collected : ℕ)
    → seat.frames ≤ MOST_FRAMES → IsOfHeader reader.header seat.chain.geometry → HasMemoryFor reader writer buffers course
    → (start : ClientStart) (past : List Act) → IsBegun start past seat (begun_with course reader writer accepted collected)
    → CanGoOn (Some course) reader seat writer buffers
can_resume course reader seat writer buffers accepted collected most header memory start past b =
    can_go_on past (record { reader = start.reader; seat = start.seat; writer = b.opened })
    (outset_of start b.shown b.opened b.first b.is_opened)
    (opened_size start.seat.chain start.reader.header b.shown start.before start.failures b.opened b.header b.is_opened) course reader seat
    writer buffers most b.tally.offers header b.at memory

pub resumed : (course : code.Course) (reader : ReaderState) (seat : StreamSeatValue) (writer : WriterState) (accepted collected : ℕ)
    (start : ClientStart) (past : List Act)
    → IsBegun start past seat (begun_with course reader writer accepted collected) → IsRunning (Some course) start past reader seat writer
resumed course reader seat writer accepted collected start past b = record {
  shown = b.shown;
  opened = b.opened;
  header = b.header;
  is_opened = b.is_opened;
  first = b.first;
  before = b.at;
  same_header = b.same_header;
  tally = b.tally;
}

-- feeding goes on from the outset
pub fed_from : (fed : Fed) (in_hand : Option FrameText) (past : List Act) (o : Outset) (reader reader' : ReaderState)
    (seat seat' : StreamSeatValue) (writer writer' : WriterState)
    → HasInHand o.reader reader o.seat seat o.writer writer in_hand
    → ((before : ReaderState) → Holds before reader in_hand → FeedsOn fed past before reader' seat seat' writer writer')
    → FeedsOn fed past o.reader reader' o.seat seat' o.writer writer'
fed_from fed in_hand past o reader reader' seat seat' writer writer' at fed_on =
    FeedsOn-behind o.reader at.before o.seat seat o.writer writer at.frames at.passed past fed reader' seat' writer'
    (fed_on at.before at.holds)

-- a stream of which nothing was done, behind its header line
pub feeding_first : (start : ClientStart) (past : List Act) (seat : StreamSeatValue) (reader : ReaderState) (contents : Option (List ℕ))
    (failures : ℕ)
    (opened : WriterState) → IsUnbegun start past seat reader contents failures
    → HasInHand start.reader reader start.seat seat opened opened None
feeding_first start past seat reader contents failures opened is = record {
  before = reader;
  frames = [];
  passed = record {
    each = All-nil (IsFrameOf (data_len_of start.reader.header));
    taken = rw is.same_reader (Consumes-nil start.reader.rest);
    moved = Moves-fresh start.seat seat opened is.first is.fresh is.stays;
    header = ap (λ (r : ReaderState). r.header) is.same_reader;
    no_failure = ap (λ (r : ReaderState). r.failures) is.same_reader;
  };
  holds = refl;
  is_open = ap (λ (r : ReaderState). r.phase) is.same_reader ∙ is.is_open;
}

-- images went out, and the frame in hand stays in hand
pub in_hand_moved : (in_hand : Option FrameText) (reader reader' : ReaderState) (first mid seat : StreamSeatValue)
    (writer between writer' : WriterState) → HasInHand reader reader' first mid writer between in_hand → Moves mid seat between writer' []
    → HasInHand reader reader' first seat writer writer' in_hand
in_hand_moved in_hand reader reader' first mid seat writer between writer' at moved = record {
  before = at.before;
  frames = at.frames;
  passed = record {
    each = at.passed.each;
    taken = at.passed.taken;
    moved = rw (append-nil at.frames) at (Moves-trans first mid seat writer between writer' at.frames [] at.passed.moved moved);
    header = at.passed.header;
    no_failure = at.passed.no_failure;
  };
  holds = at.holds;
  is_open = at.is_open;
}
