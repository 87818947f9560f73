-- From a reader's opening to a client's end.
use Rattle.std.proofs.Common.{◌≡◌, ◌⊎◌, ℕ, List, [], ◌∷◌, ◌++◌, length, Option, Some, None, IfSome, refl, sym}
use Rattle.std.proofs.Common.{ap, ◌∙◌, append-nil, length-append, arith, subst, inl, inr}
use Rattle.std.proofs.KnownBytes.{Consumes-trans, Consumes-whole}
use Rattle.std.proofs.lemmas.List.{nil_from_length}
use Rattle.std.specs.Io.KnownBytes.{Appends, Consumes, IsAtEnd, Keeps}
use Rattle.y4m_header.specs.StreamText.{frames_text, stream_text}
use Rattle.filters.specs.Chain.{ChainValue}
use Rattle.y4m_stream.specs.Reader.{data_len_of}
use Rattle.y4m_stream.specs.Served.{IsServedText}
use Rattle.y4m_stream.proofs.Puts.{behind_line}
use Rattle.serve_hub.specs.declared.entry.Act.{Act}
use Rattle.serve_hub.specs.Seats.{StreamSeatValue}
use Rattle.serve_client.specs.declared.stop.Cause.TheVariants.{NoMemory}
use Rattle.serve_client.specs.declared.stop.Stop.{Stop}
use Rattle.serve_client.specs.declared.stop.Stop.TheVariants.{Whole, Write, Refused}
use Rattle.serve_client.specs.Clients.{ClientOutcome, ClientProgress, ClientStart, ClientStopsAt, CutsHeader, Ends, EndsWithin}
use Rattle.serve_client.specs.Clients.{HasEnded, StreamStopsAt, WroteImages, WroteNothing}
use Rattle.serve_client.specs.Laws.{InputIsServed, InputIsServedTo, ServesAll}

-- all known bytes were read, and none is left
all_read : (a b c : Option (List ℕ)) (text : List ℕ) → Consumes a b text → IsAtEnd b → Keeps b c
    → IfSome a (λ _. c ≡ Some [])
all_read None b c text p q k = tt
all_read (Some xs) None c text p q k = absurd p
all_read (Some xs) (Some ys) None text p q k = absurd k
all_read (Some xs) (Some ys) (Some zs) text p q k = ap Some (k ∙ q)

-- where no image is left, all that was begun was written
no_part : (chain : ChainValue) (part : List ℕ) (old new : ℕ) → EndsWithin chain [] part old new → part ≡ []
no_part chain part old new (inl a) = a.0
no_part chain part old new (inr a) = let both : [] ≡ a.0.next ∷ a.0.later = a.0.first in absurd (cc)

module _ (StopsAt : Stop → ClientProgress → Type 0) (ended : (at : ClientProgress) → StopsAt Whole at → HasEnded at)
    (input : Option (List ℕ)) (text : List ℕ) (start : ClientStart) (past : List Act) (seat : StreamSeatValue) (end : ClientOutcome)
    (e : Ends StopsAt start past seat end) (taken : Consumes input e.rest text) (is : end.stop ≡ Whole) where
  abbrev at : ClientProgress
  at = record {
    len = data_len_of start.reader.header;
    count = end.accepted;
    most = start.seat.frames;
    rest = e.rest;
    left = end.left;
    calls = past ++ seat.calls.list;
  }

  whole_at : WroteNothing start end ⊎ CutsHeader start end ⊎ StopsAt end.stop at → IsAtEnd e.rest × Keeps e.rest end.left
  whole_at (inl a) = let both : Whole ≡ Refused NoMemory = sym is ∙ a.stop in absurd (cc)
  whole_at (inr (inl a)) = let both : Whole ≡ Write a.fault = sym is ∙ a.stop in absurd (cc)
  whole_at (inr (inr a)) = ended at (subst (λ s. StopsAt s at) is a)

  at_end : IsAtEnd e.rest × Keeps e.rest end.left
  at_end = whole_at e.stops

  serves_all : WroteNothing start end ⊎ CutsHeader start end ⊎ WroteImages e.frames start end
      → ServesAll input text e.frames start end
  serves_all (inl a) = let both : Whole ≡ Refused NoMemory = sym is ∙ a.stop in absurd (cc)
  serves_all (inr (inl a)) = let both : Whole ≡ Write a.fault = sym is ∙ a.stop in absurd (cc)
  serves_all (inr (inr a)) =
      let later : a.later ≡ [] = nil_from_length a.later
      (omega (arith, ap length a.first, length-append a.sent a.later, a.count, (e.whole is).all, e.count)) in
      let sent : a.sent ≡ e.frames = sym (a.first ∙ ap (λ l. a.sent ++ l) later ∙ append-nil a.sent) in
      let part : a.part ≡ [] = no_part start.seat.chain a.part start.failures end.failures
      (subst (λ l. EndsWithin start.seat.chain l a.part start.failures end.failures) later a.ends) in
      record {
        whole = Consumes-whole input e.rest text (λ bytes. bytes ≡ text) taken at_end.0 refl;
        all_read = all_read input e.rest end.left text taken at_end.0 at_end.1;
        served = a.served;
        is_served = subst (λ l. IsServedText start.seat.chain start.reader.header.line l a.served) sent a.is_served;
        wrote = subst (Appends start.before end.after) (ap (λ l. a.served ++ l) part ∙ append-nil a.served) a.wrote;
      }

input_is_served_to : (StopsAt : Stop → ClientProgress → Type 0) → ((at : ClientProgress) → StopsAt Whole at → HasEnded at)
    → InputIsServedTo StopsAt
input_is_served_to StopsAt ended input failures start past seat end opened e =
    let text : List ℕ = stream_text start.reader.header.line e.frames in
    let taken : Consumes input e.rest text =
    subst (Consumes input e.rest) (behind_line start.reader.header.line (frames_text e.frames))
    (Consumes-trans input start.reader.rest e.rest (start.reader.header.line ++ 10 ∷ []) (frames_text e.frames)
    opened.taken e.taken) in
    record {
      text = text;
      frames = e.frames;
      rest = e.rest;
      is_text = record {
        w = start.reader.header.width;
        h = start.reader.header.height;
        chroma = start.reader.header.chroma;
        is_header = opened.header;
        each = e.each;
        is_text = refl;
      };
      count = e.count;
      taken = taken;
      stops = e.stops;
      out = e.out;
      whole = λ is. serves_all StopsAt ended input text start past seat end e taken is e.out;
    }

whole_stream : (at : ClientProgress) → StreamStopsAt Whole at → HasEnded at
whole_stream here (inl a) = a
whole_stream here (inr a) = absurd a

pub input_is_served : InputIsServed
input_is_served = (input_is_served_to ClientStopsAt (λ here a. a), input_is_served_to StreamStopsAt whole_stream)
