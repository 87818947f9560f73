-- What filtering tells of the calls that failed, once the writer is closed.
use Rattle.std.proofs.Common.{◌≡◌, ℕ, List, Bool, false, Option, Result, Ok, Err, unwrap_or, inl, inr, refl, ap, ◌∙◌}
use Rattle.row_bands.specs.declared.band_height.BandHeight.{BandHeight}
use Rattle.filters.specs.declared.op.Op.{Op}
use Rattle.filters.specs.Chain.{ChainValue}
use Rattle.y4m_header.specs.Header.{HeaderValue}
use Rattle.y4m_stream.specs.declared.fault.WriteFault.TheVariants.{Device, Failed}
use Rattle.y4m_stream.specs.declared.fault.FilterFault.{FilterFault}
use Rattle.y4m_stream.specs.declared.fault.FilterFault.TheVariants.{Read, Ops, Write, TooManyFrames}
use Rattle.y4m_stream.specs.declared.filter.Filter.{Filter}
use Rattle.y4m_stream.specs.declared.reader.Phase.TheVariants.{Open}
use Rattle.y4m_stream.specs.Failures.{one_more}
use Rattle.y4m_stream.specs.Filtered.{CountsReads, CountsWrites}
use Rattle.y4m_stream.specs.Inside.{CanPass, Closes, CountsClosing, FailsToBegin, HasFailedAt, HasPassed}
use Rattle.y4m_stream.specs.Inside.{IsFilterFor, ReadsTold, filter_writes_at}
use Rattle.y4m_stream.specs.Reader.{ReaderState}
use Rattle.y4m_stream.specs.Writer.{FlushesOrFails, IsOpenedFor, WriterState}

-- frames can be passed on by a filter that is made for the reader's frames
pub CanPass-begun : (ops : List Op) (height : BandHeight) (reader : ReaderState) (filter : Filter)
    (before : Option (List ℕ)) (failures : ℕ) (writer : WriterState) → reader.phase ≡ Open
    → IsFilterFor ops height reader.header filter
    → IsOpenedFor (unwrap_or filter.resized reader.header) before failures writer → CanPass filter.images.chain reader writer
CanPass-begun ops height reader filter before failures writer reading is opened = record {
  reading = reading;
  writing = opened.writing;
  header = is.of_header;
  size = record {
    width = opened.width ∙ is.shown.width;
    height = opened.height ∙ is.shown.height;
    chroma = opened.chroma ∙ is.shown.chroma;
  };
}

-- where no frame could be passed on
module _ (ops : List Op) (height : BandHeight) (header : HeaderValue) (before after : Option (List ℕ)) where
  pub reads_at_header : (fault : FilterFault) (n : ℕ) → FailsToBegin fault ops height header before after → ReadsTold (Err fault) n n
  reads_at_header (Read fault) n fails = absurd fails
  reads_at_header (Ops e) n fails = refl
  reads_at_header (Write fault) n fails = refl
  reads_at_header TooManyFrames n fails = refl

  pub writes_at_header : (fault : FilterFault) (old new : ℕ) → FailsToBegin fault ops height header before after
      → new ≡ filter_writes_at fault old → CountsWrites {T = ℕ} (Err fault) old new
  writes_at_header (Read fault) old new fails told = absurd fails
  writes_at_header (Ops e) old new fails told = inl told
  writes_at_header (Write fault) old new fails told = told
  writes_at_header TooManyFrames old new fails told = inl told

-- a fault stays, and another answer is told where the flush failed
pub closed_reads : (Ahead : ℕ → Option (List ℕ) → Option (List ℕ)
    → Type 0) (chain : ChainValue) (reader reader' : ReaderState) (writer writer' : WriterState) (passed result : Result ℕ FilterFault)
    → Closes passed writer' result → HasPassed Ahead ReadsTold chain reader reader' writer writer' passed
    → ReadsTold result reader.failures reader'.failures
closed_reads Ahead chain reader reader' writer writer' (Ok n) (Ok m) closes has = has.reads
closed_reads Ahead chain reader reader' writer writer' (Ok n) (Err fault) closes has = rw (closes has.outcome.writing) has.reads
closed_reads Ahead chain reader reader' writer writer' (Err fault) (Ok m) closes has = absurd cc
closed_reads Ahead chain reader reader' writer writer' (Err fault) (Err other) closes has =
    let same : other ≡ fault = cc in rw same has.reads

pub closed_counts : (Ahead : ℕ → Option (List ℕ) → Option (List ℕ)
    → Type 0) (chain : ChainValue) (reader reader' : ReaderState) (writer writer' : WriterState) (passed result : Result ℕ FilterFault)
    → Closes passed writer' result → HasPassed Ahead CountsReads chain reader reader' writer writer' passed
    → CountsReads result reader.failures reader'.failures
closed_counts Ahead chain reader reader' writer writer' (Ok n) (Ok m) closes has = has.reads
closed_counts Ahead chain reader reader' writer writer' (Ok n) (Err fault) closes has = rw (closes has.outcome.writing) (inl has.reads)
closed_counts Ahead chain reader reader' writer writer' (Err fault) (Ok m) closes has = absurd cc
closed_counts Ahead chain reader reader' writer writer' (Err fault) (Err other) closes has =
    let same : other ≡ fault = cc in rw same has.reads

module _ (writer' : WriterState) (old after : ℕ) where
  fault_writes : (fault : FilterFault) → HasFailedAt fault writer' → writer'.failures ≡ filter_writes_at fault old
      → CountsClosing (Err fault) writer' (Err fault) after
      → CountsWrites {T = ℕ} (Err fault) old after
  fault_writes (Read fault) failed told counted = rw told at counted.1
  fault_writes (Ops e) failed told counted = rw told at counted.1
  fault_writes (Write (Device bytes)) failed told counted = counted.0 failed ∙ told
  fault_writes (Write Failed) failed told counted = absurd failed
  fault_writes TooManyFrames failed told counted = rw told at counted.1

  fault_flushes : (fault : FilterFault) (is_flushed : Bool) (result : Result ℕ FilterFault) → HasFailedAt fault writer'
      → writer'.failures ≡ filter_writes_at fault old
      → CountsClosing (Err fault) writer' result after
      → (writer'.failed ≡ false → FlushesOrFails is_flushed writer'.failures after) → FlushesOrFails is_flushed old after
  fault_flushes (Read fault) is_flushed result failed told counted closed = rw told at closed failed
  fault_flushes (Ops e) is_flushed result failed told counted closed = rw told at closed failed
  fault_flushes (Write (Device bytes)) is_flushed result failed told counted closed = inr (counted.0 failed ∙ told)
  fault_flushes (Write Failed) is_flushed result failed told counted closed = absurd failed
  fault_flushes TooManyFrames is_flushed result failed told counted closed = rw told at closed failed

module _ (Ahead : ℕ → Option (List ℕ) → Option (List ℕ) → Type 0) (Reads : Result ℕ FilterFault → ℕ → ℕ
    → Type 0) (chain : ChainValue) (reader reader' : ReaderState) (writer writer' : WriterState)
    (old after : ℕ) (opened : writer.failures ≡ old) where
  pub closed_writes : (passed result : Result ℕ FilterFault) → Closes passed writer' result
      → CountsClosing passed writer' result after → HasPassed Ahead Reads chain reader reader' writer writer' passed
      → CountsWrites result old after
  closed_writes (Ok n) (Ok m) closes counted has = counted ∙ has.writes ∙ opened
  closed_writes (Ok n) (Err fault) closes counted has =
      rw (closes has.outcome.writing) (counted has.outcome.writing ∙ ap one_more (has.writes ∙ opened))
  closed_writes (Err fault) (Ok m) closes counted has = absurd cc
  closed_writes (Err fault) (Err other) closes counted has =
      let same : other ≡ fault = cc in rw same (fault_writes writer' old after fault has.outcome.1 (rw opened at has.writes) counted)

  pub closed_flushes : (passed result : Result ℕ FilterFault) (is_flushed : Bool)
      → CountsClosing passed writer' result after → (writer'.failed ≡ false → FlushesOrFails is_flushed writer'.failures after)
      → HasPassed Ahead Reads chain reader reader' writer writer' passed → FlushesOrFails is_flushed old after
  closed_flushes (Ok n) result is_flushed counted closed has = rw (has.writes ∙ opened) at closed has.outcome.writing
  closed_flushes (Err fault) result is_flushed counted closed has =
      fault_flushes writer' old after fault is_flushed result has.outcome.1 (rw opened at has.writes) counted closed
