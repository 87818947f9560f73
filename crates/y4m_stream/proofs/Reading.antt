-- What a reader answers: a frame behind its line, or a fault in its data.
use Rattle.std.proofs.Common.{◌≡◌, ℕ, ◌+◌, ◌-◌, ◌≤◌, List, ◌∷◌, ◌++◌, length, take, drop, Option, None, Some}
use Rattle.std.proofs.Common.{Ok, min, inl, inr, refl, sym, ap, ◌∙◌, append_assoc, length-append, arith}
use Rattle.std.proofs.KnownBytes.{Keeps-refl}
use Rattle.std.specs.Io.KnownBytes.{Consumes, Keeps, prepend_known}
use Rattle.y4m_header.specs.FrameLine.{IsFrameLine}
use Rattle.y4m_header.specs.Header.{HeaderValue}
use Rattle.y4m_header.specs.StreamText.{FrameText, IsFrameOf, text_of}
use Rattle.y4m_stream.specs.declared.fault.ReadFault.{ReadFault}
use Rattle.y4m_stream.specs.declared.fault.ReadFault.TheVariants.{Device, LineTooLong, Header, NotFrame, Truncated, NoMemory, Failed}
use Rattle.y4m_stream.specs.declared.lookahead.TheConstants.{LINE_LIMIT}
use Rattle.y4m_stream.specs.declared.reader.Phase.{Phase}
use Rattle.y4m_stream.specs.declared.reader.Phase.TheVariants.{Open}
use Rattle.y4m_stream.specs.Front.{HasGiven, IsCutFrame, IsFrameAhead, IsReadAhead, StandsAtFrame}
use Rattle.y4m_stream.specs.Inside.{BeginsWithLine, FindsFrame, LacksBytes, LookaheadState, rest_of, state_of}
use Rattle.y4m_stream.specs.Reader.{Answers, data_len_of}
use Rattle.y4m_stream.proofs.Known.{Consumes-behind, Consumes-held, Consumes-later}

-- bytes that are missing behind those that are held
pub LacksBytes-behind : (fault : ReadFault) (a b : Option (List ℕ)) (held : List ℕ) (len n missing : ℕ)
    → n ≡ min (length held) len → missing ≡ len - n
    → LacksBytes missing fault a b → LacksBytes len fault (prepend_known held a) b
LacksBytes-behind Device a b held len n missing few rest lacks =
    (held ++ lacks.0, Consumes-behind a b held lacks.0 lacks.1, rw length-append (omega (arith, few, rest, lacks.2)))
LacksBytes-behind LineTooLong a b held len n missing few rest lacks = absurd lacks
LacksBytes-behind (Header e) a b held len n missing few rest lacks = absurd lacks
LacksBytes-behind NotFrame a b held len n missing few rest lacks = absurd lacks
LacksBytes-behind Truncated None b held len n missing few rest lacks = tt
LacksBytes-behind Truncated (Some bytes) b held len n missing few rest lacks = rw length-append (omega (arith, few, rest, lacks))
LacksBytes-behind NoMemory a b held len n missing few rest lacks = absurd lacks
LacksBytes-behind Failed a b held len n missing few rest lacks = absurd lacks

-- a frame line is held at the front, and the data behind it is missing
module _ (held : List ℕ) (end : ℕ) (begins : BeginsWithLine held end) (is_line : IsFrameLine (take end held)) where
  behind_line : (ys more : List ℕ) → drop (end + 1) held ++ ys ≡ more → held ++ ys ≡ take end held ++ 10 ∷ more
  behind_line ys more e = ap (λ l. l ++ ys) begins.feed ∙ append_assoc (take end held) (10 ∷ drop (end + 1) held) ys
      ∙ ap (λ l. take end held ++ 10 ∷ l) e

  given_behind_line : (a b : Option (List ℕ)) (bytes : List ℕ) → Consumes (prepend_known (drop (end + 1) held) a) b bytes
      → Consumes (prepend_known held a) b (take end held ++ 10 ∷ bytes)
  given_behind_line None b bytes p = tt
  given_behind_line (Some xs) None bytes p = absurd p
  given_behind_line (Some xs) (Some ys) bytes p = behind_line xs (bytes ++ ys) p ∙ sym (append_assoc (take end held) (10 ∷ bytes) ys)

  pub StandsAtFrame-behind_line : (len : ℕ) (fault : ReadFault) (a b : Option (List ℕ))
      → LacksBytes len fault (prepend_known (drop (end + 1) held) a) b
      → StandsAtFrame len fault (prepend_known held a) b
  StandsAtFrame-behind_line len Device a b lacks = (
    take end held ++ 10 ∷ lacks.0,
    given_behind_line a b lacks.0 lacks.1,
    inr (record { line = take end held; more = lacks.0; is_line = is_line; short = lacks.2; whole = refl }),
  )
  StandsAtFrame-behind_line len LineTooLong a b lacks = absurd lacks
  StandsAtFrame-behind_line len (Header e) a b lacks = absurd lacks
  StandsAtFrame-behind_line len NotFrame a b lacks = absurd lacks
  StandsAtFrame-behind_line len Truncated None b lacks = tt
  StandsAtFrame-behind_line len Truncated (Some xs) b lacks = (
    rw length-append (omega (arith, begins.within)),
    inr (record {
      line = take end held;
      more = drop (end + 1) held ++ xs;
      is_line = is_line;
      short = lacks;
      whole = behind_line xs _ refl;
    }),
  )
  StandsAtFrame-behind_line len NoMemory a b lacks = absurd lacks
  StandsAtFrame-behind_line len Failed a b lacks = absurd lacks

-- a frame is found and taken
pub Answers-taken : (header : HeaderValue) (old found new : LookaheadState) (phase phase' : Phase) (n : ℕ)
    (frame : FrameText) → FindsFrame old found phase phase' n
    → IsFrameOf (data_len_of header) frame → Consumes (rest_of found) (rest_of new) (text_of frame)
    → length new.held ≤ LINE_LIMIT → new.failures ≡ found.failures
    → Answers (state_of header phase old) (state_of header Open new) (Ok (Some frame))
Answers-taken header old found new phase phase' n frame finds is_frame taken few same = record {
  header = refl;
  is_open = λ e. record {
    is_frame = is_frame;
    taken = Consumes-later (rest_of old) (rest_of found) (rest_of new) (text_of frame) finds.kept taken;
    ahead = (new.held, Consumes-held (rest_of new) new.left new.held (Keeps-refl (rest_of new)), few);
    stays_open = refl;
    no_failure = same ∙ finds.no_failure;
  };
  has_ended = λ e. absurd (let was = finds.was_open in cc);
  has_failed = λ e. absurd (let was = finds.was_open in cc);
}

-- what is held was read ahead
pub IsReadAhead-held : (at : LookaheadState) → length at.held ≤ LINE_LIMIT → IsReadAhead (rest_of at) at.left
IsReadAhead-held at few = (at.held, Consumes-held (rest_of at) at.left at.held (Keeps-refl (rest_of at)), few)

-- what is held was read ahead, and nothing else
pub IsFrameAhead-held : (old new : LookaheadState) (len : ℕ) → Keeps (rest_of old) (rest_of new)
    → length new.held ≤ LINE_LIMIT → IsFrameAhead len (rest_of old) new.left
IsFrameAhead-held old new len kept few = (new.held, Consumes-held (rest_of old) new.left new.held kept, omega (arith, few))

cut_length : (len : ℕ) (bytes : List ℕ) → IsCutFrame len bytes → length bytes ≤ LINE_LIMIT + len + LINE_LIMIT
cut_length len bytes (inl cut) = omega (arith, cut.short)
cut_length len bytes (inr cut) = rw (cut.whole, length-append) (omega (arith, cut.short, cut.is_line.is_line.short))

-- a part of a frame was read
pub IsFrameAhead-cut : (a b c : Option (List ℕ)) (len : ℕ) → Keeps a b → HasGiven b c (IsCutFrame len) → IsFrameAhead len a c
IsFrameAhead-cut a b c len kept given = (given.0, Consumes-later a b c given.0 kept given.1, cut_length len given.0 given.2)
