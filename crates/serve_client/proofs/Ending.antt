-- What a client comes to.
use Rattle.std.proofs.Common.{◌≡◌, ◌≢◌, ◌↔◌, ◌⊎◌, ℕ, ◌+◌, true, false, List, [], ◌∷◌, ◌++◌, length, take}
use Rattle.std.proofs.Common.{Option, None, Some, IsSome, Result, Ok, Err, OnOk, IfErr, refl, sym, ap, ◌∙◌, append-nil}
use Rattle.std.proofs.Common.{length-append, arith, subst, inl, inr, unwrap_or, ◌≤◌, IfSome}
use Rattle.std.proofs.KnownBytes.{Appends-kept, Appends-trans, Consumes-nil}
use Rattle.std.proofs.lemmas.List.{length-take-le}
use Rattle.std.proofs.lemmas.List.Elements.{All-nil}
use Rattle.std.specs.Io.KnownBytes.{Appends, Keeps}
use Rattle.y4m_header.specs.Header.{HeaderValue}
use Rattle.y4m_header.specs.StreamText.{FrameText, IsFrameOf, frames_text, stream_text, text_of}
use Rattle.filters.specs.Chain.{ChainValue}
use Rattle.y4m_stream.specs.declared.fault.WriteFault.{WriteFault}
use Rattle.y4m_stream.specs.declared.fault.WriteFault.TheVariants.{Device, Failed}
use Rattle.y4m_stream.specs.Failures.{one_more}
use Rattle.y4m_stream.specs.Reader.{ReaderState, data_len_of}
use Rattle.y4m_stream.specs.Served.{IsHeaderOfImages, served_header}
use Rattle.y4m_stream.specs.Writer.{FlushesOrFails, IsOpenedFor, IsWriterFor, WriterState, write_failures_at, write_failures_told}
use Rattle.y4m_stream.proofs.Puts.{put_both}
use Rattle.serve_core.specs.declared.collected.Collected.{Collected}
use Rattle.serve_hub.specs.declared.entry.Act.{Act}
use Rattle.serve_hub.specs.Seats.{StreamSeatValue, collected_by}
use Rattle.serve_client.specs.declared.stop.Cause.TheVariants.{NoMemory}
use Rattle.serve_client.specs.declared.stop.Stop.{Stop}
use Rattle.serve_client.specs.declared.stop.Stop.TheVariants.{Whole, Read, Write, Refused, Torn}
use Rattle.serve_client.specs.Clients.{ClientOutcome, ClientProgress, ClientStart, CutsHeader, Ends, GivesUpAt}
use Rattle.serve_client.specs.Clients.{ClientStopsAt, CountsReads, StreamStopsAt, WroteImages, WroteNothing}
use Rattle.serve_client.specs.ClientInside.{IsFirst, TalliesSeat}
use Rattle.serve_client.specs.Sends.{BreaksOff, Flushes, IsSent, IsSpoilt, SendsWhole, ServesTo, TellsKept, TellsStop, kept_or_whole}
use Rattle.serve_client.specs.Rests.{IsFresh, IsTallied, IsUnbegun}
use Rattle.serve_client.proofs.Tallying.{counted_later, if_more}

-- what finishing a writer tells
pub record Finishes {T : Type 0} (writer : WriterState) (flush : Result T WriteFault) (end : ClientOutcome) : Type 0 where
  pub kept : Keeps writer.contents end.after
  pub flushed : OnOk flush (end.is_flushed ≡ true)
  pub closed : writer.failed ≡ false → FlushesOrFails end.is_flushed writer.failures end.failures
  pub fault : writer.failed ≡ false → IfErr flush (λ e. e ≡ Device writer.bytes)
  pub failed : (flush ≡ Err Failed) ↔ (writer.failed ≡ true)
  pub told : end.failures ≡ write_failures_told flush writer.failures

-- a stop before the flush and behind it

module _ {T : Type 0} where
  flush_stop : (stop : Stop) (flush : Result T WriteFault) (told : Stop) → Flushes stop flush told
      → ((fault : WriteFault) → stop ≢ Write fault) → (fault : WriteFault) → told ≡ Write fault → flush ≡ Err fault
  flush_stop Whole (Ok t) told e other fault is = absurd (other fault (sym e ∙ is))
  flush_stop Whole (Err f) told e other fault is =
      let both : Write f ≡ Write fault = sym e ∙ is in
      let same : f ≡ fault = cc in
      ap Err same
  flush_stop (Read f) flush told e other fault is = absurd (other fault (sym e ∙ is))
  flush_stop (Refused cause) flush told e other fault is = absurd (other fault (sym e ∙ is))
  flush_stop (Write f) flush told e other fault is = absurd (other fault (sym e ∙ is))
  flush_stop Torn flush told e other fault is = absurd (other fault (sym e ∙ is))

  -- a stop that isn't whole stays
  pub stop_stays : (stop : Stop) (flush : Result T WriteFault) (told : Stop) → Flushes stop flush told → stop ≢ Whole
      → told ≡ stop
  stop_stays Whole flush told e other = absurd (other refl)
  stop_stays (Read f) flush told e other = e
  stop_stays (Refused cause) flush told e other = e
  stop_stays (Write f) flush told e other = e
  stop_stays Torn flush told e other = e

  -- all went well
  whole_flush : (stop : Stop) (flush : Result T WriteFault) (told : Stop) → Flushes stop flush told → told ≡ Whole
      → (stop ≡ Whole) × ((t : T) × (flush ≡ Ok t))
  whole_flush Whole (Ok t) told e is = (refl, (t, refl))
  whole_flush Whole (Err f) told e is = let both : Write f ≡ Whole = sym e ∙ is in absurd (cc)
  whole_flush (Read f) flush told e is = let both : Read f ≡ Whole = sym e ∙ is in absurd (cc)
  whole_flush (Refused cause) flush told e is = let both : Refused cause ≡ Whole = sym e ∙ is in absurd (cc)
  whole_flush (Write f) flush told e is = let both : Write f ≡ Whole = sym e ∙ is in absurd (cc)
  whole_flush Torn flush told e is = let both : Torn ≡ Whole = sym e ∙ is in absurd (cc)

  torn_flushed : (stop : Stop) (flush : Result T WriteFault) (told : Stop) → Flushes stop flush told → told ≡ Torn → stop ≡ Torn
  torn_flushed Whole (Ok t) told e is = let both : Whole ≡ Torn = sym e ∙ is in absurd (cc)
  torn_flushed Whole (Err f) told e is = let both : Write f ≡ Torn = sym e ∙ is in absurd (cc)
  torn_flushed (Read f) flush told e is = let both : Read f ≡ Torn = sym e ∙ is in absurd (cc)
  torn_flushed (Refused cause) flush told e is = let both : Refused cause ≡ Torn = sym e ∙ is in absurd (cc)
  torn_flushed (Write f) flush told e is = let both : Write f ≡ Torn = sym e ∙ is in absurd (cc)
  torn_flushed Torn flush told e is = refl

  pub stops_flushed : (stop : Stop) (flush : Result T WriteFault) (told : Stop) (at : ClientProgress) → Flushes stop flush told
      → ClientStopsAt stop at → ClientStopsAt told at
  stops_flushed Whole (Ok t) told at e a = subst (λ s. ClientStopsAt s at) (sym e) a
  stops_flushed Whole (Err f) told at e a = subst (λ s. ClientStopsAt s at) (sym e) (inl (inr a))
  stops_flushed (Read f) flush told at e a = subst (λ s. ClientStopsAt s at) (sym e) a
  stops_flushed (Refused cause) flush told at e a = subst (λ s. ClientStopsAt s at) (sym e) a
  stops_flushed (Write f) flush told at e a = subst (λ s. ClientStopsAt s at) (sym e) a
  stops_flushed Torn flush told at e a = subst (λ s. ClientStopsAt s at) (sym e) a

  -- the same of a stream
  pub stream_flushed : (stop : Stop) (flush : Result T WriteFault) (told : Stop) (at : ClientProgress) → Flushes stop flush told
      → StreamStopsAt stop at → StreamStopsAt told at
  stream_flushed stop flush told at e (inl a) = inl (stops_flushed stop flush told at e a)
  stream_flushed stop flush told at e (inr a) =
      inr (subst (λ s. GivesUpAt s at) (sym (stop_stays stop flush told e (λ is. subst (λ s. GivesUpAt s at) is a))) a)

  -- a fault that was kept is told behind the flush too
  first_flushed : (first later stop : Stop) (flush : Result T WriteFault) (told : Stop) → later ≢ Whole → Flushes stop flush told
      → IsFirst first later stop → IsFirst first later told
  first_flushed Whole later stop flush told other e k = stop_stays stop flush told e (λ is. other (sym k ∙ is)) ∙ k
  first_flushed (Read f) later stop flush told other e k =
      stop_stays stop flush told e (λ is. let both : Read f ≡ Whole = sym k ∙ is in absurd (cc)) ∙ k
  first_flushed (Refused cause) later stop flush told other e k =
      stop_stays stop flush told e (λ is. let both : Refused cause ≡ Whole = sym k ∙ is in absurd (cc)) ∙ k
  first_flushed (Write f) later stop flush told other e k =
      stop_stays stop flush told e (λ is. let both : Write f ≡ Whole = sym k ∙ is in absurd (cc)) ∙ k
  first_flushed Torn later stop flush told other e k =
      stop_stays stop flush told e (λ is. let both : Torn ≡ Whole = sym k ∙ is in absurd (cc)) ∙ k

  stop_flushed : (kept : Option Stop) (stop : Stop) (flush : Result T WriteFault) (told : Stop) → Flushes stop flush told
      → TellsStop kept stop → TellsStop kept told
  stop_flushed None stop flush told e k = stop_stays stop flush told e (λ is. absurd (cc)) ∙ k
  stop_flushed (Some s) stop flush told e k =
      λ fault. stop_stays stop flush told e (λ is. fault (sym (k fault) ∙ is)) ∙ k fault

  pub told_kept : (image : Option Collected) (kept : Option Stop) (before delivered : ℕ) (stop : Stop) (flush : Result T WriteFault)
      (told : Stop) → Flushes stop flush told → TellsKept image kept before stop delivered → TellsKept image kept before told delivered
  told_kept None kept before delivered stop flush told e k = (stop_flushed kept stop flush told e k.0, k.1)
  told_kept (Some pair) kept before delivered stop flush told e (inl k) =
      inl (first_flushed (kept_or_whole kept) (Refused NoMemory) stop flush told (λ is. absurd (cc)) e k.0, k.1)
  told_kept (Some pair) kept before delivered stop flush told e (inr k) =
      inr (k.0, first_flushed (kept_or_whole kept) (Write k.0) stop flush told (λ is. absurd (cc)) e k.1, k.2)

  reads_flushed : (stop : Stop) (flush : Result T WriteFault) (told : Stop) (old new : ℕ) → Flushes stop flush told
      → CountsReads stop old new → CountsReads told old new
  reads_flushed Whole (Ok t) told old new e a = subst (λ s. CountsReads s old new) (sym e) a
  reads_flushed Whole (Err f) told old new e a = subst (λ s. CountsReads s old new) (sym e) (inl a)
  reads_flushed (Read f) flush told old new e a = subst (λ s. CountsReads s old new) (sym e) a
  reads_flushed (Refused cause) flush told old new e a = subst (λ s. CountsReads s old new) (sym e) a
  reads_flushed (Write f) flush told old new e a = subst (λ s. CountsReads s old new) (sym e) a
  reads_flushed Torn flush told old new e a = subst (λ s. CountsReads s old new) (sym e) a

  flush_failures : (writer : WriterState) (flush : Result T WriteFault) (end : ClientOutcome) (n : ℕ)
      → Finishes writer flush end → writer.failed ≡ false → writer.failures ≡ n
      → (end.failures ≡ n) ⊎ (end.failures ≡ one_more n)
  flush_failures writer (Ok t) end n fin writing same = inl (fin.told ∙ same)
  flush_failures writer (Err f) end n fin writing same =
      inr (fin.told ∙ ap (λ e. write_failures_at e writer.failures) (fin.fault writing) ∙ ap one_more same)

  flush_fault : (writer : WriterState) (flush : Result T WriteFault) (end : ClientOutcome) (n : ℕ) (fault : WriteFault)
      → Finishes writer flush end → writer.failed ≡ false → writer.failures ≡ n → flush ≡ Err fault
      → (end.failures ≡ one_more n) × (fault ≡ Device writer.bytes)
  flush_fault writer flush end n fault fin writing same is =
      let this : Finishes writer (Err fault) end = subst (λ r. Finishes writer r end) is fin in
      (this.told ∙ ap (λ e. write_failures_at e writer.failures) (this.fault writing) ∙ ap one_more same, this.fault writing)

-- what went out behind the header line

module _ (start : ClientStart) (end : ClientOutcome) (shown : HeaderValue) (writer : WriterState)
    (header : IsHeaderOfImages start.seat.chain start.reader.header shown)
    (opened : IsOpenedFor shown start.before start.failures writer) where
  abbrev line : List ℕ
  line = served_header start.seat.chain start.reader.header.line

  wrote_behind : (now : Option (List ℕ)) (text : List ℕ) → Appends writer.contents now text
      → Appends start.before now (line ++ 10 ∷ text)
  wrote_behind now text p =
      put_both start.before writer.contents now line text
      (subst (λ (l : List ℕ). Appends start.before writer.contents (l ++ 10 ∷ [])) header.line opened.wrote) p

  bytes_behind : (n : ℕ) (text : List ℕ) → n ≡ writer.bytes + length text → n ≡ length (line ++ 10 ∷ text)
  bytes_behind n text e = omega (arith, e, opened.bytes, ap length header.line, length-append line (10 ∷ text))

  wrote_whole : {T : Type 0} (frames : List FrameText) (stop : Stop) (writer' : WriterState) (flush : Result T WriteFault)
      → SendsWhole start.seat.chain frames writer writer' → ((fault : WriteFault) → stop ≢ Write fault)
      → Finishes writer' flush end → Flushes stop flush end.stop → end.delivered ≡ writer'.frames
      → WroteImages frames start end
  wrote_whole frames stop writer' flush s other fin flushes delivered =
      let served : List ℕ = stream_text line s.out.images in
      let failures : writer'.failures ≡ start.failures = s.no_failure ∙ opened.no_failure in
      let size : writer'.bytes ≡ length (served ++ []) =
      bytes_behind writer'.bytes (frames_text s.out.images) s.out.bytes ∙ ap length (sym (append-nil served)) in
      record {
        sent = s.out.sent;
        later = s.out.later;
        served = served;
        part = [];
        first = s.out.first;
        count = omega (arith, opened.frames, s.out.frames_out, delivered);
        is_served = record { images = s.out.images; each = s.out.made; whole = refl };
        ends = inl (refl, flush_failures writer' flush end start.failures fin s.writing failures);
        wrote = subst (Appends start.before end.after) (sym (append-nil served))
            (Appends-kept start.before writer'.contents end.after served
            (wrote_behind writer'.contents (frames_text s.out.images) s.out.wrote) fin.kept);
        closed = subst (λ n. FlushesOrFails end.is_flushed n end.failures) failures (fin.closed s.writing);
        told = λ fault is.
            let failed = flush_fault writer' flush end start.failures fault fin s.writing failures
            (flush_stop stop flush end.stop flushes other fault is) in
            (failed.0, failed.1 ∙ ap Device size);
      }

  wrote_part : {T : Type 0} (frames : List FrameText) (fault : WriteFault) (writer' : WriterState) (flush : Result T WriteFault)
      → BreaksOff start.seat.chain frames writer writer' fault → Finishes writer' flush end
      → ((other : WriteFault) → end.stop ≡ Write other → other ≡ fault) → end.delivered ≡ writer'.frames
      → WroteImages frames start end
  wrote_part frames fault writer' flush b fin only delivered =
      let out = b.whole.out in
      let served : List ℕ = stream_text line out.images in
      let n : ℕ = b.cut.cut.n in
      let part : List ℕ = take n (text_of b.image) in
      let has_failed : writer'.failed ≡ true = ap (λ (w : WriterState). w.failed) b.cut.failed in
      let this : Finishes writer' (Err Failed) end =
      subst (λ r. Finishes writer' r end) (fin.failed.1 has_failed) fin in
      let failures : end.failures ≡ one_more start.failures =
      this.told ∙ ap (λ (w : WriterState). w.failures) b.cut.failed
      ∙ ap one_more (b.whole.no_failure ∙ opened.no_failure) in
      let size : b.between.bytes + n ≡ length (served ++ part) =
      omega (
        arith,
        bytes_behind b.between.bytes (frames_text out.images) out.bytes,
        length-append served part,
        length-take-le n (text_of b.image) (omega (arith, b.cut.cut.partly)),
      ) in
      record {
        sent = out.sent;
        later = out.later;
        served = served;
        part = part;
        first = out.first;
        count = omega (arith, opened.frames, out.frames_out, delivered, ap (λ (w : WriterState). w.frames) b.cut.failed);
        is_served = record { images = out.images; each = out.made; whole = refl };
        ends = inr (
          record {
            next = b.next;
            later = b.later;
            first = b.oldest;
            image = b.image;
            made = b.made;
            n = n;
            partly = b.cut.cut.partly;
            front = refl;
          },
          failures,
        );
        wrote = Appends-kept start.before writer'.contents end.after (served ++ part)
            (Appends-trans start.before b.between.contents writer'.contents served part
            (wrote_behind b.between.contents (frames_text out.images) out.wrote) b.cut.cut.front) fin.kept;
        closed = inr failures;
        told = λ other is. (failures, only other is ∙ b.cut.cut.counted ∙ ap Device size);
      }

  -- a writer that hasn't failed
  unfailed : (stop : Stop) (frames : List FrameText) (writer' : WriterState)
      → IsSent stop start.seat.chain frames writer writer' → writer'.failed ≡ false → writer'.failures ≡ start.failures
  unfailed stop frames writer' (inl a) writing = a.0.no_failure ∙ opened.no_failure
  unfailed stop frames writer' (inr a) writing =
      let both : true ≡ false = sym (ap (λ (w : WriterState). w.failed) a.1.cut.failed) ∙ writing in absurd (cc)

  pub wrote_until : {T : Type 0} (frames : List FrameText) (stop : Stop) (writer' : WriterState) (flush : Result T WriteFault)
      → IsSent stop start.seat.chain frames writer writer' → (stop ≡ Whole → writer'.failed ≡ false)
      → Finishes writer' flush end → Flushes stop flush end.stop → end.delivered ≡ writer'.frames
      → WroteImages frames start end
  wrote_until frames stop writer' flush (inl a) writing fin flushes delivered =
      wrote_whole frames stop writer' flush a.0 a.1 fin flushes delivered
  wrote_until frames stop writer' flush (inr a) writing fin flushes delivered =
      let broken : stop ≢ Whole = λ is.
      let both : true ≡ false = sym (ap (λ (w : WriterState). w.failed) a.1.cut.failed) ∙ writing is in absurd (cc) in
      wrote_part frames a.0 writer' flush a.1 fin
      (λ other is. a.2 other (sym (stop_stays stop flush end.stop flushes broken) ∙ is)) delivered

  -- one that has failed
  failed_told : {T : Type 0} (stop : Stop) (frames : List FrameText) (writer' : WriterState) (flush : Result T WriteFault)
      → IsSent stop start.seat.chain frames writer writer' → Finishes writer' flush end → writer'.failed ≡ true
      → end.failures ≡ one_more start.failures
  failed_told stop frames writer' flush (inl a) fin failed =
      let both : true ≡ false = sym failed ∙ a.0.writing in absurd (cc)
  failed_told stop frames writer' flush (inr a) fin failed =
      let this : Finishes writer' (Err Failed) end = subst (λ r. Finishes writer' r end) (fin.failed.1 failed) fin in
      this.told ∙ ap (λ (w : WriterState). w.failures) a.1.cut.failed ∙ ap one_more (a.1.whole.no_failure ∙ opened.no_failure)

  -- each image was delivered or is kept, or a write failed, or an answer was told Torn
  kept_told : {T : Type 0} (stop : Stop) (frames : List FrameText) (seat' : StreamSeatValue) (writer' : WriterState)
      (flush : Result T WriteFault) → IsSent stop start.seat.chain frames writer writer' → Finishes writer' flush end
      → end.delivered ≡ writer'.frames → length frames ≡ end.accepted
      → IsSpoilt writer' seat' ⊎ (writer'.frames + length seat'.kept ≡ writer.frames + length frames)
      → (end.failures ≡ one_more start.failures) ⊎ IsSome seat'.torn ⊎ (end.delivered + length seat'.kept ≡ end.accepted)
  kept_told stop frames seat' writer' flush sent fin delivered count (inl (inl failed)) =
      inl (failed_told stop frames writer' flush sent fin failed)
  kept_told stop frames seat' writer' flush sent fin delivered count (inl (inr torn)) = inr (inl torn)
  kept_told stop frames seat' writer' flush sent fin delivered count (inr all) =
      inr (inr (omega (arith, all, delivered, count, opened.frames)))

  -- the writer is for the images
  pub opened_for : IsWriterFor start.seat.chain writer
  opened_for = record {
    width = opened.width ∙ header.width;
    height = opened.height ∙ header.height;
    chroma = opened.chroma ∙ header.chroma;
  }

  -- the header line was written, and the stream was served
  pub Ends-served : {T : Type 0} (StopsAt : Stop → ClientProgress → Type 0) (past : List Act) (stop : Stop) (reader' : ReaderState)
      (seat' : StreamSeatValue) (writer' : WriterState) (flush : Result T WriteFault)
      → ((told : Stop) (at : ClientProgress) → Flushes stop flush told → StopsAt stop at → StopsAt told at)
      → ServesTo StopsAt past stop start.reader reader' start.seat seat' writer writer'
      → IsFresh start.seat → IsTallied past start.seat seat' writer' → Finishes writer' flush end
      → Flushes stop flush end.stop → end.accepted ≡ seat'.accepted → end.delivered ≡ writer'.frames
      → end.left ≡ reader'.left → end.read_failures ≡ reader'.failures → Ends StopsAt start past seat' end
  Ends-served StopsAt past stop reader' seat' writer' flush flushed s fresh tally fin flushes accepted delivered left reads =
      let at : ℕ → Option (List ℕ) → ClientProgress = λ k l. record {
        len = data_len_of start.reader.header;
        count = k;
        most = start.seat.frames;
        rest = s.read.rest;
        left = l;
        calls = past ++ seat'.calls.list;
      } in
      let counted : start.seat.accepted + length s.frames ≡ end.accepted = sym s.count ∙ sym accepted in
      record {
        frames = s.frames;
        rest = s.read.rest;
        each = s.read.each;
        taken = s.read.taken;
        count = omega (arith, counted, fresh.accepted);
        stops = inr (inr (flushed end.stop (at end.accepted end.left) flushes
            (subst (StopsAt stop) (ap (λ k. at k reader'.left) counted ∙ ap (at end.accepted) (sym left)) s.read.stops)));
        reads = reads_flushed stop flush end.stop start.reader.failures end.read_failures flushes
            (subst (λ n. CountsReads stop start.reader.failures n) (sym reads) s.read.reads);
        out = inr (inr (wrote_until s.frames stop writer' flush s.sent (λ is. (s.whole is).1) fin flushes delivered));
        whole = λ is.
            let well = whole_flush stop flush end.stop flushes is in
            let all = s.whole well.0 in
            let this : Finishes writer' (Ok well.1.0) end =
            subst (λ r. Finishes writer' r end) well.1.1 fin in
            record {
              all = omega (arith, delivered, all.0, opened.frames, counted, fresh.accepted);
              no_failure = this.told ∙ unfailed stop s.frames writer' s.sent all.1;
              flushed = this.flushed;
            };
        kept = kept_told stop s.frames seat' writer' flush s.sent fin delivered (omega (arith, counted, fresh.accepted)) s.kept;
        drained = λ is. (s.whole (whole_flush stop flush end.stop flushes is).0).2;
        number = tally.number;
        spec = tally.spec;
        accepted = sym accepted;
        offers = tally.offers ∙ sym accepted;
        collections = omega (arith, tally.images, delivered);
        before = tally.before;
        torn = λ none. subst (λ n. IfSome seat'.torn (λ m. start.seat.before + n ≤ m)) (sym delivered) (tally.torn none);
        told = λ is. s.torn (torn_flushed stop flush end.stop flushes is);
      }

-- the header line that is written
pub shown_for : (chain : ChainValue) (header own second shown : HeaderValue) (resized : Option HeaderValue)
    → own ≡ header → second ≡ header → shown ≡ unwrap_or resized second
    → IsHeaderOfImages chain own (unwrap_or resized own) → IsHeaderOfImages chain header shown
shown_for chain header own second shown resized p q e is =
    subst (IsHeaderOfImages chain header) (sym (e ∙ ap (unwrap_or resized) q))
    (subst (λ (h : HeaderValue). IsHeaderOfImages chain h (unwrap_or resized h)) p is)

-- nothing was offered

module _ (start : ClientStart) (end : ClientOutcome) where
  reads_unopened : (old new : ℕ) → new ≡ old → WroteNothing start end ⊎ CutsHeader start end → CountsReads end.stop old new
  reads_unopened old new same (inl a) = subst (λ s. CountsReads s old new) (sym a.stop) same
  reads_unopened old new same (inr a) = subst (λ s. CountsReads s old new) (sym a.stop) (inl same)

  not_whole : WroteNothing start end ⊎ CutsHeader start end → end.stop ≢ Whole
  not_whole (inl a) is = let both : Refused NoMemory ≡ Whole = sym a.stop ∙ is in absurd (cc)
  not_whole (inr a) is = let both : Write a.fault ≡ Whole = sym a.stop ∙ is in absurd (cc)

  not_torn : WroteNothing start end ⊎ CutsHeader start end → end.stop ≢ Torn
  not_torn (inl a) is = let both : Refused NoMemory ≡ Torn = sym a.stop ∙ is in absurd (cc)
  not_torn (inr a) is = let both : Write a.fault ≡ Torn = sym a.stop ∙ is in absurd (cc)

  before_or : (P : Type 0) → WroteNothing start end ⊎ CutsHeader start end → WroteNothing start end ⊎ CutsHeader start end ⊎ P
  before_or P (inl a) = inl a
  before_or P (inr a) = inr (inl a)

  delivered_none : WroteNothing start end ⊎ CutsHeader start end → end.delivered ≡ 0
  delivered_none (inl a) = a.none
  delivered_none (inr a) = a.none

  pub Ends-unopened : (StopsAt : Stop → ClientProgress → Type 0) (past : List Act) (seat seat' : StreamSeatValue)
      (reader : ReaderState) (contents : Option (List ℕ)) (failures : ℕ)
      → IsUnbegun start past seat reader contents failures → TalliesSeat seat seat'
      → seat'.accepted ≡ seat.accepted → seat'.kept ≡ seat.kept → end.accepted ≡ 0 → end.read_failures ≡ start.reader.failures
      → WroteNothing start end ⊎ CutsHeader start end → Ends StopsAt start past seat' end
  Ends-unopened StopsAt past seat seat' reader contents failures unbegun tally same same_kept accepted reads out = record {
    frames = [];
    rest = start.reader.rest;
    each = All-nil (IsFrameOf (data_len_of start.reader.header));
    taken = Consumes-nil start.reader.rest;
    count = sym accepted;
    stops = before_or _ out;
    reads = reads_unopened start.reader.failures end.read_failures reads out;
    out = before_or _ out;
    whole = λ is. absurd (not_whole out is);
    kept = inr (inr (omega (arith, delivered_none out, accepted, ap length same_kept, ap length unbegun.fresh.kept)));
    drained = λ is. absurd (not_whole out is);
    number = tally.number ∙ unbegun.stays.number;
    spec = tally.spec ∙ unbegun.stays.spec;
    accepted = omega (arith, same, unbegun.fresh.accepted, accepted);
    offers = omega (arith, counted_later past seat seat' tally unbegun.offers, same, unbegun.fresh.accepted, accepted);
    collections = omega (arith, delivered_none out);
    before = tally.before ∙ unbegun.before;
    torn = λ none.
        if_more (λ n. collected_by seat ≤ n) (λ n. start.seat.before + end.delivered ≤ n) seat'.torn
        (λ n few. omega (arith, few, unbegun.before, delivered_none out)) (tally.torn (unbegun.stays.torn ∙ none));
    told = λ is. absurd (not_torn out is);
  }
