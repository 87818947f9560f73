-- How frames move through a seat to a writer.
use Rattle.std.proofs.Common.{◌≡◌, ℕ, ◌+◌, ◌≤◌, List, [], ◌∷◌, ◌++◌, length, false, refl, sym, ap, ◌∙◌}
use Rattle.std.proofs.Common.{append_assoc, append-nil, length-append, arith, subst, Result, Ok, Err}
use Rattle.std.proofs.KnownBytes.{Appends-trans, Appends-nil}
use Rattle.std.proofs.lemmas.List.{map-append, length-map}
use Rattle.frame_view.specs.declared.frame.Frame.{Frame}
use Rattle.frame_view.specs.declared.geometry.Geometry.{Geometry}
use Rattle.y4m_header.specs.Header.{HeaderValue}
use Rattle.y4m_header.specs.StreamText.{FrameText, frames_text, text_of}
use Rattle.filters.specs.Chain.{ChainValue, Format}
use Rattle.filters.specs.ChainImage.{IsChainImage, value_of}
use Rattle.filters.proofs.ChainGeometry.{same_geometry}
use Rattle.y4m_stream.specs.declared.fault.WriteFault.{WriteFault}
use Rattle.y4m_header.specs.declared.limits.TheConstants.{MOST_FRAMES}
use Rattle.y4m_stream.specs.Reader.{IsOfHeader, frame_text_of}
use Rattle.y4m_stream.specs.Served.{AreImages, IsImageText}
use Rattle.y4m_stream.specs.Writer.{FailsToPut, IsOfSize, IsWriterFor, PutsFrame, WriterState}
use Rattle.y4m_stream.proofs.Filtered.{header_format}
use Rattle.serve_core.specs.declared.collected.Collected.{Collected}
use Rattle.serve_core.specs.Streams.{IsImageOf, source_in}
use Rattle.serve_hub.specs.Calls.{Accepts, Gives}
use Rattle.serve_hub.specs.Seats.{StreamSeatValue}
use Rattle.serve_client.specs.declared.stop.Halt.{Halt}
use Rattle.serve_client.specs.declared.stop.Halt.TheVariants.{Full, Stopped}
use Rattle.serve_client.specs.declared.stop.Stop.{Stop}
use Rattle.serve_client.specs.declared.stop.Stop.TheVariants.{Whole, Read, Write, Refused, Torn}
use Rattle.serve_client.specs.ClientInside.{Accounted, Cuts, HaltsWith}
use Rattle.serve_client.specs.ClientInside.{Moves, MovesOrHalts, StopsWith, texts_of}
use Rattle.serve_client.specs.Hands.{IsBegunPair, with_kept}
use Rattle.serve_client.proofs.Hands.{Behind-map}
use Rattle.serve_client.proofs.Staying.{Collects-stays, Puts-writes, Stays-same, Stays-trans, Writes-trans}
use Rattle.serve_client.proofs.Staying.{stays_chain, stays_closed, stays_frames, text_of_value}

pub frames_text-append : (xs ys : List FrameText) → frames_text (xs ++ ys) ≡ frames_text xs ++ frames_text ys
frames_text-append [] ys = refl
frames_text-append (x ∷ xs) ys =
    ap (λ l. text_of x ++ l) (frames_text-append xs ys) ∙ sym (append_assoc (text_of x) (frames_text xs) (frames_text ys))

pub AreImages-append : (chain : ChainValue) (xs is ys js : List FrameText) → AreImages chain xs is → AreImages chain ys js
    → AreImages chain (xs ++ ys) (is ++ js)
AreImages-append chain [] [] ys js p q = q
AreImages-append chain [] (i ∷ is) ys js p q = absurd p
AreImages-append chain (x ∷ xs) [] ys js p q = absurd p
AreImages-append chain (x ∷ xs) (i ∷ is) ys js p q = (p.0, AreImages-append chain xs is ys js p.1 q)

-- the image that was collected, as a stream has it
pub image_text : (pair : Collected) (old new : StreamSeatValue) → Gives pair old new
    → IsImageText old.chain (record { line = (source_in pair).line; samples = (source_in pair).samples }) (frame_text_of pair.image)
image_text pair old new given =
    let Made : Geometry → Type 0 = λ g. IsChainImage old.chain.ops
    (record { geometry = g; line = (source_in pair).line; samples = (source_in pair).samples }) (value_of pair.image) in
    record { size = pair.image.geometry; is_image = subst Made given.source given.collects.image }

-- the image has the size of the writer's frames
pub image_size : (chain : ChainValue) (image : Frame) (writer : WriterState) → IsWriterFor chain writer → IsImageOf chain image
    → IsOfSize writer image.geometry
image_size chain image writer size is = record {
  width = ap (λ (f : Format). f.width) is ∙ sym size.width;
  height = ap (λ (f : Format). f.height) is ∙ sym size.height;
  chroma = ap (λ (f : Format). f.chroma) is ∙ sym size.chroma;
}

-- two geometries of the header's frames are one
pub one_size : (header : HeaderValue) (a b : Geometry) → IsOfHeader header a → IsOfHeader header b → a ≡ b
one_size header a b p q = same_geometry a b (header_format header a p ∙ sym (header_format header b q))

pub Moves-none : (seat seat' : StreamSeatValue) (writer writer' : WriterState) → seat' ≡ seat → writer' ≡ writer
    → Moves seat seat' writer writer' []
Moves-none seat seat' writer writer' p q = rw (p, q) (record {
  sent = [];
  images = [];
  order = append-nil (texts_of seat.kept);
  made = tt;
  wrote = Appends-nil writer.contents;
  bytes = omega arith;
  frames = omega arith;
  count = omega arith;
  within = λ few. few;
  seat_stays = Stays-same seat;
  writer_stays = refl;
})

pub Moves-accept : (seat seat' : StreamSeatValue) (writer : WriterState) (frame : Frame) (n : ℕ)
    → Accepts (value_of frame) n seat seat' → Moves seat seat' writer writer (frame_text_of frame ∷ [])
Moves-accept seat seat' writer frame n a = rw a.seat (record {
  sent = [];
  images = [];
  order = sym (map-append text_of_value seat.kept (value_of frame ∷ []));
  made = tt;
  wrote = Appends-nil writer.contents;
  bytes = omega arith;
  frames = omega arith;
  count = refl;
  within = λ _. omega (arith, a.few);
  seat_stays = record { number = refl; spec = refl; is_closed = refl; torn = refl };
  writer_stays = refl;
})

-- a frame was collected, which the seat still kept
pub Moves-kept : (seat seat' : StreamSeatValue) (writer : WriterState) (pair : Collected) → Gives pair seat seat'
    → Moves seat (with_kept pair seat') writer writer []
Moves-kept seat seat' writer pair given =
    let stays = Collects-stays pair seat seat' given.collects in
    record {
      sent = [];
      images = [];
      order = append-nil (texts_of seat.kept) ∙ ap texts_of given.oldest;
      made = tt;
      wrote = Appends-nil writer.contents;
      bytes = omega arith;
      frames = omega arith;
      count = ap (λ (s : StreamSeatValue). s.accepted) given.collects.seat ∙ omega arith;
      within = λ few. rw (
        ap (λ (s : StreamSeatValue). s.accepted) given.collects.seat,
        ap (λ (s : StreamSeatValue). s.frames)
            given.collects.seat,
      ) few;
      seat_stays = record {
        number = stays.number;
        spec = stays.spec;
        is_closed = stays.is_closed;
        torn = stays.torn;
      };
      writer_stays = refl;
    }

-- the image that was in hand went out whole
pub Moves-finish : (pair : Collected) (seat : StreamSeatValue) (before writer writer' : WriterState)
    → IsBegunPair seat.chain pair before writer → PutsFrame before writer' (frame_text_of pair.image)
    → Moves (with_kept pair seat) seat before writer' []
Moves-finish pair seat before writer writer' begun put =
    let image = frame_text_of pair.image in
    record {
      sent = record { line = (source_in pair).line; samples = (source_in pair).samples } ∷ [];
      images = image ∷ [];
      order = append-nil (texts_of (source_in pair ∷ seat.kept));
      made = (begun.made, tt);
      wrote = rw (append-nil (text_of image)) put.appended;
      bytes = ap (λ (w : WriterState). w.bytes) put.counted ∙ rw (append-nil (text_of image)) refl;
      frames = ap (λ (w : WriterState). w.frames) put.counted;
      count = omega arith;
      within = λ few. few;
      seat_stays = record { number = refl; spec = refl; is_closed = refl; torn = refl };
      writer_stays = Puts-writes before writer' image put;
    }

pub Moves-trans : (seat mid seat' : StreamSeatValue) (writer between writer' : WriterState) (xs ys : List FrameText)
    → Moves seat mid writer between xs → Moves mid seat' between writer' ys → Moves seat seat' writer writer' (xs ++ ys)
Moves-trans seat mid seat' writer between writer' xs ys a b = record {
  sent = a.sent ++ b.sent;
  images = a.images ++ b.images;
  order = sym (append_assoc (texts_of seat.kept) xs ys) ∙ ap (λ l. l ++ ys) a.order ∙ append_assoc a.sent (texts_of mid.kept) ys
      ∙ ap (λ l. a.sent ++ l) b.order ∙ sym (append_assoc a.sent b.sent (texts_of seat'.kept));
  made = AreImages-append seat.chain a.sent a.images b.sent b.images a.made (rw (stays_chain seat mid a.seat_stays) at b.made);
  wrote = rw (frames_text-append a.images b.images)
      (Appends-trans writer.contents between.contents writer'.contents (frames_text a.images) (frames_text b.images) a.wrote b.wrote);
  bytes = omega (
    arith,
    a.bytes,
    b.bytes,
    ap length (frames_text-append a.images b.images),
    length-append (frames_text a.images)
        (frames_text b.images),
  );
  frames = omega (arith, a.frames, b.frames, length-append a.sent b.sent);
  count = omega (arith, a.count, b.count, length-append xs ys);
  within = λ few. b.within (a.within few);
  seat_stays = Stays-trans seat mid seat' a.seat_stays b.seat_stays;
  writer_stays = Writes-trans writer between writer' a.writer_stays b.writer_stays;
}

-- it didn't
pub Cuts-finish : (pair : Collected) (seat : StreamSeatValue) (before writer writer' : WriterState) (fault : WriteFault)
    → IsBegunPair seat.chain pair before writer → FailsToPut before writer' (frame_text_of pair.image) fault
    → Cuts (with_kept pair seat) before writer' [] fault
Cuts-finish pair seat before writer writer' fault begun cut = record {
  mid = with_kept pair seat;
  between = before;
  moved = Moves-none (with_kept pair seat) (with_kept pair seat) before before refl refl;
  next = record { line = (source_in pair).line; samples = (source_in pair).samples };
  lost = texts_of seat.kept;
  image = frame_text_of pair.image;
  oldest = refl;
  made = begun.made;
  cut = cut;
}

Cuts-later : (seat mid : StreamSeatValue) (writer between writer' : WriterState) (xs ys : List FrameText) (fault : WriteFault)
    → Moves seat mid writer between xs → Cuts mid between writer' ys fault → Cuts seat writer writer' (xs ++ ys) fault
Cuts-later seat mid writer between writer' xs ys fault a b = record {
  mid = b.mid;
  between = b.between;
  moved = Moves-trans seat mid b.mid writer between b.between xs ys a b.moved;
  next = b.next;
  lost = b.lost;
  image = b.image;
  oldest = b.oldest;
  made = rw (stays_chain seat mid a.seat_stays) at b.made;
  cut = b.cut;
}

pub StopsWith-later : (stop : Stop) (seat mid seat' : StreamSeatValue) (writer between writer' : WriterState) (xs ys : List FrameText)
    → Moves seat mid writer between xs → StopsWith stop mid seat' between writer' ys → StopsWith stop seat seat' writer writer' (xs ++ ys)
StopsWith-later Whole seat mid seat' writer between writer' xs ys a b = Moves-trans seat mid seat' writer between writer' xs ys a b
StopsWith-later (Read fault) seat mid seat' writer between writer' xs ys a b = Moves-trans seat mid seat' writer between writer' xs ys a b
StopsWith-later (Refused cause) seat mid seat' writer between writer' xs ys a b =
    Moves-trans seat mid seat' writer between writer' xs ys a b
StopsWith-later (Write fault) seat mid seat' writer between writer' xs ys a b = Cuts-later seat mid writer between writer' xs ys fault a b
StopsWith-later Torn seat mid seat' writer between writer' xs ys a b = (
  b.0,
  Moves-trans seat mid b.0 writer between writer' xs ys a b.1,
  b.2,
)

pub HaltsWith-later : (halt : Halt) (seat mid seat' : StreamSeatValue) (writer between writer' : WriterState) (xs ys : List FrameText)
    → Moves seat mid writer between xs → HaltsWith halt mid seat' between writer' ys → HaltsWith halt seat seat' writer writer' (xs ++ ys)
HaltsWith-later (Full image) seat mid seat' writer between writer' xs ys a b =
    Behind-map image seat' writer' (λ s w. Moves mid s between w ys) (λ s w. Moves seat s writer w (xs ++ ys))
    (λ s w stood moved. Moves-trans seat mid s writer between w xs ys a moved) b
HaltsWith-later (Stopped stop) seat mid seat' writer between writer' xs ys a b =
    StopsWith-later stop seat mid seat' writer between writer' xs ys a b

pub MovesOrHalts-later : {T : Type 0} (result : Result T Halt) (seat mid seat' : StreamSeatValue) (writer between writer' : WriterState)
    → Moves seat mid writer between [] → MovesOrHalts result mid seat' between writer' [] → MovesOrHalts result seat seat' writer writer' []
MovesOrHalts-later (Ok t) seat mid seat' writer between writer' a b = Moves-trans seat mid seat' writer between writer' [] [] a b
MovesOrHalts-later (Err halt) seat mid seat' writer between writer' a b =
    HaltsWith-later halt seat mid seat' writer between writer' [] [] a b

-- what went out and what is kept are together what was accepted
pub Accounted-later : (seat seat' : StreamSeatValue) (writer writer' : WriterState) (xs : List FrameText)
    → Moves seat seat' writer writer' xs
    → Accounted seat writer → Accounted seat' writer'
Accounted-later seat seat' writer writer' xs a p = record {
  balanced = omega (
    arith,
    a.frames,
    a.count,
    p.balanced,
    ap length a.order,
    length-append (texts_of seat.kept) xs,
    length-append a.sent (texts_of seat'.kept),
    length-map seat.kept text_of_value,
    length-map seat'.kept text_of_value,
  );
  within = a.within p.within;
  most = rw (stays_frames seat seat' a.seat_stays) p.most;
  is_open = stays_closed seat seat' a.seat_stays ∙ p.is_open;
  writing = ap (λ (w : WriterState). w.failed) a.writer_stays ∙ p.writing;
  none = ap (λ (w : WriterState). w.part) a.writer_stays ∙ p.none;
}

-- what was kept or accepted went out, or is kept
pub moved_kept : (seat seat' : StreamSeatValue) (writer writer' : WriterState) (xs : List FrameText) → Moves seat seat' writer writer' xs
    → writer'.frames + length seat'.kept ≡ writer.frames + length seat.kept + length xs
moved_kept seat seat' writer writer' xs a = omega (
  arith,
  a.frames,
  ap length a.order,
  length-append (texts_of seat.kept) xs,
  length-append a.sent (texts_of seat'.kept),
  length-map seat.kept text_of_value,
  length-map seat'.kept text_of_value,
)

-- there are no more frames than a writer may put
pub few_of : (seat : StreamSeatValue) (writer : WriterState) → Accounted seat writer → writer.frames + length seat.kept ≤ MOST_FRAMES
few_of seat writer p = omega (arith, p.balanced, p.within, p.most)

pub few_later : (seat seat' : StreamSeatValue) (writer writer' : WriterState) → Moves seat seat' writer writer' []
    → writer.frames + length seat.kept ≤ MOST_FRAMES → writer'.frames + length seat'.kept ≤ MOST_FRAMES
few_later seat seat' writer writer' a few = omega (
  arith,
  few,
  a.frames,
  ap length a.order,
  length-append (texts_of seat.kept) [],
  length-append a.sent (texts_of seat'.kept),
  length-map seat.kept text_of_value,
  length-map seat'.kept text_of_value,
)

pub size_later : (seat seat' : StreamSeatValue) (writer writer' : WriterState) (xs : List FrameText) → Moves seat seat' writer writer' xs
    → IsWriterFor seat.chain writer → IsWriterFor seat'.chain writer'
size_later seat seat' writer writer' xs a p = rw (stays_chain seat seat' a.seat_stays) (record {
  width = ap (λ (w : WriterState). w.width) a.writer_stays ∙ p.width;
  height = ap (λ (w : WriterState). w.height) a.writer_stays ∙ p.height;
  chroma = ap (λ (w : WriterState). w.chroma) a.writer_stays ∙ p.chroma;
})

pub writing_later : (seat seat' : StreamSeatValue) (writer writer' : WriterState) (xs : List FrameText) → Moves seat seat' writer writer' xs
    → writer.failed ≡ false → writer'.failed ≡ false
writing_later seat seat' writer writer' xs a p = ap (λ (w : WriterState). w.failed) a.writer_stays ∙ p

pub none_later : (seat seat' : StreamSeatValue) (writer writer' : WriterState) (xs : List FrameText) → Moves seat seat' writer writer' xs
    → writer.part ≡ 0 → writer'.part ≡ 0
none_later seat seat' writer writer' xs a p = ap (λ (w : WriterState). w.part) a.writer_stays ∙ p

-- a seat that stayed as it was
pub Moves-at : (seat mid at : StreamSeatValue) (writer between : WriterState) → at ≡ mid → Moves seat mid writer between []
    → Moves seat at writer between []
Moves-at seat mid at writer between same a = rw same a
