-- What stays of a seat and of a writer.
use Rattle.std.proofs.Common.{◌≡◌, ℕ, refl, sym, ap, ◌∙◌}
use Rattle.y4m_header.specs.StreamText.{FrameText}
use Rattle.filters.specs.ChainImage.{FrameValue}
use Rattle.y4m_stream.specs.Writer.{PutsFrame, WriterState}
use Rattle.serve_core.specs.declared.collected.Collected.{Collected}
use Rattle.serve_core.specs.Setup.{StreamSpec}
use Rattle.serve_hub.specs.Calls.{Collects}
use Rattle.serve_hub.specs.Seats.{StreamSeatValue, spec_told, torn_at}
use Rattle.serve_client.specs.ClientInside.{GivesUp}
use Rattle.serve_client.specs.ClientInside.{Stays}

pub Stays-same : (seat : StreamSeatValue) → Stays seat seat
Stays-same seat = record { number = refl; spec = refl; is_closed = refl; torn = refl }

pub Stays-trans : (a b c : StreamSeatValue) → Stays a b → Stays b c → Stays a c
Stays-trans a b c p q = record {
  number = q.number ∙ p.number;
  spec = q.spec ∙ p.spec;
  is_closed = q.is_closed ∙ p.is_closed;
  torn = q.torn ∙ p.torn;
}

pub GivesUp-trans : (a b c : StreamSeatValue) → GivesUp a b → GivesUp b c → GivesUp a c
GivesUp-trans a b c p q = q ∙ ap (λ (v : StreamSeatValue). record v { calls = c.calls; kept = c.kept; torn = c.torn }) p

pub Collects-stays : (pair : Collected) (a b : StreamSeatValue) → Collects pair a b → Stays a b
Collects-stays pair a b p = record {
  number = ap (λ (v : StreamSeatValue). v.number) p.seat;
  spec = ap spec_told p.seat;
  is_closed = ap (λ (v : StreamSeatValue). v.is_closed) p.seat;
  torn = ap (λ (v : StreamSeatValue). v.torn) p.seat;
}

-- a seat is told Torn, behind what it gave up
pub GivesUp-torn : (n : ℕ) (old mid new : StreamSeatValue) → GivesUp old mid → new ≡ torn_at n mid → GivesUp old new
GivesUp-torn n old mid new up is =
    is ∙ ap (torn_at n) up ∙ ap (λ (v : StreamSeatValue). record old { calls = v.calls; kept = v.kept; torn = v.torn }) (sym is)

-- seats that tell one spec have one chain, and as many frames
pub same_chain : (a b : StreamSeatValue) → spec_told b ≡ spec_told a → b.chain ≡ a.chain
same_chain a b e = ap (λ (spec : StreamSpec). spec.chain) e

pub same_frames : (a b : StreamSeatValue) → spec_told b ≡ spec_told a → b.frames ≡ a.frames
same_frames a b e = ap (λ (spec : StreamSpec). spec.frames) e

pub stays_chain : (a b : StreamSeatValue) → Stays a b → b.chain ≡ a.chain
stays_chain a b p = same_chain a b p.spec

pub stays_frames : (a b : StreamSeatValue) → Stays a b → b.frames ≡ a.frames
stays_frames a b p = same_frames a b p.spec

pub stays_closed : (a b : StreamSeatValue) → Stays a b → b.is_closed ≡ a.is_closed
stays_closed a b p = p.is_closed

-- a frame as a stream has it
abbrev pub text_of_value : FrameValue → FrameText
text_of_value frame = record { line = frame.line; samples = frame.samples }

-- nothing of the writer may have changed but what went out
abbrev pub Writes : WriterState → WriterState → Type 0
Writes old new = new ≡ record old { contents = new.contents; frames = new.frames; bytes = new.bytes }

pub Writes-trans : (a b c : WriterState) → Writes a b → Writes b c → Writes a c
Writes-trans a b c p q =
    q ∙ ap (λ (v : WriterState). record v { contents = c.contents; frames = c.frames; bytes = c.bytes }) p

pub Puts-writes : (old new : WriterState) (image : FrameText) → PutsFrame old new image → Writes old new
Puts-writes old new image put =
    put.counted ∙ ap (λ (p : ℕ × ℕ). record old { contents = new.contents; frames = p.0; bytes = p.1 })
    (sym (ap (λ (w : WriterState). (w.frames, w.bytes)) put.counted))

pub GivesUp-at : (seat mid at : StreamSeatValue) → at ≡ mid → GivesUp seat mid → GivesUp seat at
GivesUp-at seat mid at same up = rw same up
