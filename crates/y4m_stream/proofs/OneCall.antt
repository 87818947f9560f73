-- What a call of a stream's reader answers, and what it leaves, is determined by the bytes that are left.
use Rattle.std.proofs.Common.{◌≡◌, ◌≢◌, ℕ, List, [], ◌∷◌, ◌++◌, Option, Some, None, Result, Ok, Err, IfOk}
use Rattle.std.proofs.Common.{IfErr, refl, sym, ap, ◌∙◌, append_assoc, subst}
use Rattle.std.specs.Io.KnownBytes.{Consumes, Keeps, IsAtEnd}
use Rattle.y4m_header.specs.declared.error.HeaderError.{HeaderError}
use Rattle.y4m_header.specs.declared.error.HeaderError.TheVariants.{NoMemory as NoHeaderMemory}
use Rattle.y4m_header.specs.HeaderLine.{IsHeaderLine}
use Rattle.y4m_header.specs.Refusal.{IsRefusedAs}
use Rattle.y4m_header.specs.StreamText.{FrameText, text_of}
use Rattle.y4m_header.proofs.Refusals.{one_format, one_refusal, header_refusal}
use Rattle.y4m_header.proofs.StreamLaws.{one_cut}
use Rattle.y4m_stream.specs.declared.fault.ReadFault.{ReadFault}
use Rattle.y4m_stream.specs.declared.fault.ReadFault.TheVariants.{Device, LineTooLong, Header, NotFrame, Truncated, NoMemory, Failed}
use Rattle.y4m_stream.specs.declared.reader.Phase.TheVariants.{Open}
use Rattle.y4m_stream.specs.Front.{StandsAtFrame}
use Rattle.y4m_stream.specs.Laws.{IsOfBytes, AnswerIsDetermined, OpeningIsDetermined, but_ahead, opening_but_ahead}
use Rattle.y4m_stream.specs.Reader.{AnswersOpen, Opens, ReaderState, data_len_of}
use Rattle.y4m_stream.proofs.Fronts.{Front, Cut, Long, Whole, front_of, cut_front, long_front, line_front}
use Rattle.y4m_stream.proofs.OneAnswer.{IsAnswerAt, one_answer}

-- what is left of known bytes is known
left_of : (bytes : List ℕ) (left : Option (List ℕ)) (taken : List ℕ) → Consumes (Some bytes) left taken
    → (more : List ℕ) × (left ≡ Some more) × (bytes ≡ taken ++ more)
left_of bytes None taken x = absurd x
left_of bytes (Some more) taken x = (more, refl, x)

kept : (bytes : List ℕ) (left : Option (List ℕ)) → Keeps (Some bytes) left → left ≡ Some bytes
kept bytes None x = absurd x
kept bytes (Some more) x = ap Some x

one_left : (bytes taken : List ℕ) (first second : Option (List ℕ)) → Consumes (Some bytes) first taken
    → Consumes (Some bytes) second taken → first ≡ second
one_left bytes taken first second x y =
    let a = left_of bytes first taken x in
    let b = left_of bytes second taken y in
    a.1 ∙ ap Some (one_cut taken taken a.0 b.0 refl (sym a.2 ∙ b.2)).1 ∙ sym b.1

-- two states that are the same but for how far the source was read ahead
same_but_ahead : (f g : ReaderState) → f.rest ≡ g.rest → f.header ≡ g.header → f.phase ≡ g.phase
    → f.failures ≡ g.failures → but_ahead f ≡ but_ahead g
same_but_ahead f g rests headers phases counts =
    λ i. record { rest = rests i; left = None; header = headers i; phase = phases i; failures = counts i }

-- what opening may answer at a front
abbrev OpensAt : Front → ℕ → Result ReaderState ReadFault → Type 0
OpensAt (Cut bytes) failures a = a ≡ Err Truncated
OpensAt Long failures a = a ≡ Err LineTooLong
OpensAt (Whole line more) failures (Ok opened) =
    (opened.header.line ≡ line) × IsHeaderLine line opened.header.width opened.header.height opened.header.chroma
    × (opened.rest ≡ Some more) × (opened.phase ≡ Open) × (opened.failures ≡ failures)
OpensAt (Whole line more) failures (Err fault) = (e : HeaderError) × (e ≢ NoHeaderMemory) × IsRefusedAs e line × (fault ≡ Header e)

opens_at : (bytes : List ℕ) (failures : ℕ) (left : Option (List ℕ)) (now : ℕ) (a : Result ReaderState ReadFault)
    → Opens (Some bytes) failures left now a → IfErr a IsOfBytes → OpensAt (front_of bytes) failures a
opens_at bytes failures left now (Ok opened) x of_bytes =
    let line = opened.header.line in
    let rest = left_of bytes opened.rest (line ++ 10 ∷ []) x.taken in
    rw (line_front bytes line rest.0 x.header.stated.is_y4m.is_line (rest.2 ∙ append_assoc line (10 ∷ []) rest.0))
    (refl, x.header, rest.1, x.is_open, x.no_failure)
opens_at bytes failures left now (Err Device) x of_bytes = absurd (of_bytes.0 refl)
opens_at bytes failures left now (Err LineTooLong) x of_bytes = rw (long_front bytes x.stands) refl
opens_at bytes failures left now (Err (Header e)) x of_bytes =
    let refused = x.stands.2 in
    rw (line_front bytes refused.line refused.more refused.is_line refused.whole) (e, x.stands.0, refused.refused, refl)
opens_at bytes failures left now (Err NotFrame) x of_bytes = absurd x.stands
opens_at bytes failures left now (Err Truncated) x of_bytes = rw (cut_front bytes x.stands) refl
opens_at bytes failures left now (Err NoMemory) x of_bytes = absurd (of_bytes.1 refl)
opens_at bytes failures left now (Err Failed) x of_bytes = absurd x.stands

one_opened : (front : Front) (failures : ℕ) (a b : Result ReaderState ReadFault) → OpensAt front failures a
    → OpensAt front failures b → opening_but_ahead a ≡ opening_but_ahead b
one_opened (Cut bytes) failures a b x y = ap opening_but_ahead (x ∙ sym y)
one_opened Long failures a b x y = ap opening_but_ahead (x ∙ sym y)
one_opened (Whole line more) failures (Ok f) (Ok g) x y =
    let lines : f.header.line ≡ g.header.line = x.0 ∙ sym y.0 in
    let same = one_format line f.header.width f.header.height f.header.chroma g.header.width g.header.height g.header.chroma x.1 y.1 in
    let header : f.header ≡ g.header = λ i. record { line = lines i; width = same.width i; height = same.height i; chroma = same.form i } in
    ap Ok (same_but_ahead f g (x.2 ∙ sym y.2) header (x.3 ∙ sym y.3) (x.4 ∙ sym y.4))
one_opened (Whole line more) failures (Ok f) (Err fault) x y =
    absurd (y.1 (header_refusal line f.header.width f.header.height f.header.chroma y.0 x.1 y.2))
one_opened (Whole line more) failures (Err fault) (Ok g) x y =
    absurd (x.1 (header_refusal line g.header.width g.header.height g.header.chroma x.0 y.1 x.2))
one_opened (Whole line more) failures (Err fault) (Err other) x y = ap Err (x.3 ∙ ap Header (one_refusal line x.0 y.0 x.2 y.2) ∙ sym y.3)

pub one_opening : OpeningIsDetermined
one_opening bytes failures left left' now now' a b x of_bytes y of_bytes' =
    one_opened (front_of bytes) failures a b (opens_at bytes failures left now a x of_bytes)
    (opens_at bytes failures left' now' b y of_bytes')

-- a call on an open reader that has these bytes left
module _ (old : ReaderState) (bytes : List ℕ) (known : old.rest ≡ Some bytes) (is_open : old.phase ≡ Open) where
  takes_known : (left : Option (List ℕ)) (taken : List ℕ) → Consumes old.rest left taken → Consumes (Some bytes) left taken
  takes_known left taken x = subst (λ (r : Option (List ℕ)). Consumes r left taken) known x

  keeps_known : (left : Option (List ℕ)) → Keeps old.rest left → left ≡ Some bytes
  keeps_known left x = kept bytes left (subst (λ (r : Option (List ℕ)). Keeps r left) known x)

  answers_at : (new : ReaderState) (a : Result (Option FrameText) ReadFault) → AnswersOpen old new a → IfErr a IsOfBytes
      → IsAnswerAt (data_len_of old.header) bytes a
  answers_at new (Ok (Some frame)) x of_bytes =
      let left = left_of bytes new.rest (text_of frame) (takes_known new.rest (text_of frame) x.taken) in
      (x.is_frame, (left.0, left.2))
  answers_at new (Ok None) x of_bytes = subst IsAtEnd known x.at_end
  answers_at new (Err fault) x of_bytes =
      (of_bytes, (new.left, subst (λ (r : Option (List ℕ)). StandsAtFrame (data_len_of old.header) fault r new.left) known x.stands))

  one_state : (first second : ReaderState) (a : Result (Option FrameText) ReadFault) → first.header ≡ second.header
      → AnswersOpen old first a → AnswersOpen old second a
      → IfOk a (λ _. but_ahead first ≡ but_ahead second)
  one_state first second (Ok (Some frame)) headers x y =
      let text = text_of frame in
      let rests = one_left bytes text first.rest second.rest (takes_known first.rest text x.taken) (takes_known second.rest text y.taken) in
      same_but_ahead first second rests headers (x.stays_open ∙ sym y.stays_open) (x.no_failure ∙ sym y.no_failure)
  one_state first second (Ok None) headers x y =
      let rests = keeps_known first.rest x.kept ∙ sym (keeps_known second.rest y.kept) in
      same_but_ahead first second rests headers (x.ended ∙ sym y.ended) (x.no_failure ∙ sym y.no_failure)
  one_state first second (Err fault) headers x y = tt

pub one_call : AnswerIsDetermined
one_call old first second bytes a b known is_open x of_bytes y of_bytes' =
    let one = x.is_open is_open in
    let other = y.is_open is_open in
    let same : a ≡ b = one_answer (data_len_of old.header) bytes a b
    (answers_at old bytes known is_open first a one of_bytes) (answers_at old bytes known is_open second b other of_bytes') in
    (same, one_state old bytes known is_open first second a (x.header ∙ sym y.header) one (subst (AnswersOpen old second) (sym same) other))
