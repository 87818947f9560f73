-- What callers see of a stream's writer, and what its calls do.
use Rattle.std.specs.Prelude.{◌≡◌, ℕ, ◌+◌, ◌<◌, ◌≤◌, ◌⊎◌, List, [], ◌∷◌, ◌++◌, length, take, Option}
use Rattle.std.specs.Prelude.{Result, Ok, Err, MatchResult, Bool, true, false}
use Rattle.std.specs.Io.KnownBytes.{Appends}
use Rattle.frame_view.specs.declared.geometry.Geometry.{Geometry}
use Rattle.y4m_header.specs.declared.chroma.Chroma.{Chroma}
use Rattle.y4m_header.specs.Header.{HeaderValue}
use Rattle.filters.specs.Chain.{ChainValue, format_of, last_format}
use Rattle.y4m_header.specs.StreamText.{FrameText, text_of}
use Rattle.y4m_stream.specs.declared.fault.WriteFault.{WriteFault}
use Rattle.y4m_stream.specs.declared.fault.WriteFault.TheVariants.{Device, Failed}
use Rattle.y4m_stream.specs.declared.put.Put.{Put}
use Rattle.y4m_stream.specs.declared.put.Way.{Way}
use Rattle.y4m_stream.specs.declared.put.Way.TheVariants.{Done, More, Fails}
use Rattle.y4m_stream.specs.Failures.{one_more}

-- what the sink holds, where that is known; the size of the frames; what went out since the writer was
-- opened, and whether it has failed; how many writes and flushes failed
pub record WriterState : Type 0 where
  pub contents : Option (List ℕ)
  pub width : ℕ
  pub height : ℕ
  pub chroma : Chroma
  pub frames : ℕ
  pub bytes : ℕ
  -- how many of these are of an image that was begun and isn't whole yet
  pub part : ℕ
  pub failed : Bool
  pub failures : ℕ

-- a write or a flush failed in the call exactly where this is the fault
abbrev pub write_failures_at : WriteFault → ℕ → ℕ
write_failures_at (Device bytes) n = one_more n
write_failures_at Failed n = n

-- a write or a flush failed in the call exactly where it answered that
abbrev pub write_failures_told : {T : Type 0} → Result T WriteFault → ℕ → ℕ
write_failures_told (Ok x) n = n
write_failures_told (Err fault) n = write_failures_at fault n

-- all that a sink took is flushed, or a write or a flush of it failed
abbrev pub FlushesOrFails : Bool → ℕ → ℕ → Type 0
FlushesOrFails is_flushed old new = (is_flushed ≡ true) ⊎ (new ≡ one_more old)

-- all of the text went out, or n bytes of it, from its front, and not all
abbrev pub PutsText : {T : Type 0} → Option (List ℕ) → Option (List ℕ) → List ℕ → Result T ℕ → Type 0
PutsText old new text answer =
    MatchResult answer (λ _. Appends old new text) (λ n. (n < length text) × Appends old new (take n text))

-- how far a text was written, by how writing on went
abbrev pub IsFar : Way → ℕ → ℕ → Type 0
IsFar Done written len = written ≡ len
IsFar More written len = written < len
IsFar Fails written len = written < len

-- a write failed in the call exactly where it is told so
abbrev pub failures_by : Way → ℕ → ℕ
failures_by Done n = n
failures_by More n = n
failures_by Fails n = one_more n

-- where there is more of a text of which so many bytes had gone out, some went out, or the sink may have
-- deferred them
abbrev pub WritesSome : (may_defer : Type 0) → (from : ℕ) → Put → Type 0
WritesSome may_defer from put = put.way ≡ More → (from < put.written) ⊎ may_defer

-- where so many bytes of the text had gone out, from its front, so many have now
pub record PutsOn (old new : Option (List ℕ)) (text : List ℕ) (from : ℕ) (put : Put) : Type 0 where
  pub later : from ≤ put.written
  pub far : IsFar put.way put.written (length text)
  pub front : (before : Option (List ℕ)) → Appends before old (take from text)
      → Appends before new (take put.written text)

-- n bytes of the text went out, from its front, and not all; the fault counts them and those that went out
-- before
pub record CutsShort (old new : Option (List ℕ)) (text : List ℕ) (before : ℕ)
    (fault : WriteFault) : Type 0 where
  pub n : ℕ
  pub partly : n < length text
  pub front : Appends old new (take n text)
  pub counted : fault ≡ Device (before + n)

-- the header line and its line feed went out, and nothing else is counted yet
pub record IsOpenedFor (header : HeaderValue) (contents : Option (List ℕ)) (failures : ℕ)
    (opened : WriterState) : Type 0 where
  pub wrote : Appends contents opened.contents (header.line ++ 10 ∷ [])
  pub width : opened.width ≡ header.width
  pub height : opened.height ≡ header.height
  pub chroma : opened.chroma ≡ header.chroma
  pub frames : opened.frames ≡ 0
  pub bytes : opened.bytes ≡ length header.line + 1
  pub none : opened.part ≡ 0
  pub writing : opened.failed ≡ false
  pub no_failure : opened.failures ≡ failures

-- the geometry is that of the writer's frames
pub record IsOfSize (w : WriterState) (geometry : Geometry) : Type 0 where
  pub width : geometry.width ≡ w.width
  pub height : geometry.height ≡ w.height
  pub chroma : geometry.chroma ≡ w.chroma

-- the writer's frames are of the size of the chain's images
pub record IsWriterFor (chain : ChainValue) (writer : WriterState) : Type 0 where
  pub width : writer.width ≡ (last_format chain.ops (format_of chain.geometry)).width
  pub height : writer.height ≡ (last_format chain.ops (format_of chain.geometry)).height
  pub chroma : writer.chroma ≡ (last_format chain.ops (format_of chain.geometry)).chroma

-- the frame's text went out, and counts
pub record PutsFrame (old new : WriterState) (frame : FrameText) : Type 0 where
  pub appended : Appends old.contents new.contents (text_of frame)
  pub counted : new ≡ record old {
    contents = new.contents;
    frames = old.frames + 1;
    bytes = old.bytes + length (text_of frame);
  }

-- the frame's text didn't go out whole, and the writer is of no further use
pub record FailsToPut (old new : WriterState) (frame : FrameText) (fault : WriteFault) : Type 0 where
  pub cut : CutsShort old.contents new.contents (text_of frame) old.bytes fault
  pub counted : fault ≡ Device new.bytes
  pub failed : new ≡ record old {
    contents = new.contents;
    bytes = new.bytes;
    failed = true;
    failures = one_more old.failures;
  }

-- what putting a frame does where no call has failed
abbrev pub PutsOpen : {T : Type 0} → WriterState → WriterState → FrameText → Result T WriteFault → Type 0
PutsOpen old new frame (Ok x) = PutsFrame old new frame
PutsOpen old new frame (Err fault) = FailsToPut old new frame fault

-- a front of the image's text went out behind the first of these states, and not all
pub record IsWithin (before now : WriterState) (image : FrameText) : Type 0 where
  pub writing : before.failed ≡ false
  pub none : before.part ≡ 0
  pub partly : now.part < length (text_of image)
  pub front : Appends before.contents now.contents (take now.part (text_of image))
  pub stays : now ≡ record before {
    contents = now.contents;
    bytes = before.bytes + now.part;
    part = now.part;
  }

-- what writing on with an image does that was begun behind the first of these states
abbrev pub PutsMore : WriterState → WriterState → FrameText → Result Bool WriteFault → Type 0
PutsMore before new image (Ok true) = PutsFrame before new image
PutsMore before new image (Ok false) = IsWithin before new image
PutsMore before new image (Err fault) = FailsToPut before new image fault

-- what a writer counts where it writes on with an image, whatever went out before
abbrev pub CountsMore : WriterState → WriterState → FrameText → Result Bool WriteFault → Type 0
CountsMore old new image (Ok true) =
    new ≡ record old { contents = new.contents; frames = old.frames + 1; bytes = new.bytes; part = 0 }
CountsMore old new image (Ok false) =
    (new.part < length (text_of image))
    × (new ≡ record old { contents = new.contents; bytes = new.bytes; part = new.part })
CountsMore old new image (Err fault) = new ≡ record old {
  contents = new.contents;
  bytes = new.bytes;
  part = new.part;
  failed = true;
  failures = new.failures;
}

-- what putting a frame does: it writes, or it answers that the writer has failed
pub record Puts {T : Type 0} (old new : WriterState) (frame : FrameText)
    (answer : Result T WriteFault) : Type 0 where
  pub is_open : old.failed ≡ false → PutsOpen old new frame answer
  pub has_failed : old.failed ≡ true → (answer ≡ Err Failed) × (new ≡ old)
