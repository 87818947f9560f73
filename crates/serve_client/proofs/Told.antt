-- A fault that stands in the input is told.
use Rattle.std.proofs.Common.{◌≡◌, ◌⊎◌, ◌++◌, ℕ, List, Option, Some, None, Result, Ok, Err, refl, subst, inl, inr}
use Rattle.std.specs.Io.KnownBytes.{Consumes, IsAtEnd}
use Rattle.y4m_header.specs.StreamText.{FrameText, IsFrameOf, text_of}
use Rattle.y4m_stream.specs.declared.fault.ReadFault.{ReadFault}
use Rattle.y4m_stream.specs.Filtered.{HasNext}
use Rattle.y4m_stream.specs.Front.{StandsAtFrame}
use Rattle.y4m_stream.specs.Laws.{IsOfBytes}
use Rattle.y4m_stream.specs.Reader.{data_len_of}
use Rattle.y4m_stream.proofs.OneAnswer.{one_answer}
use Rattle.serve_hub.specs.declared.entry.Act.{Act}
use Rattle.serve_client.specs.declared.stop.Cause.TheVariants.{TooManyFrames, ClockEnd, NoMemory}
use Rattle.serve_client.specs.declared.stop.Stop.{Stop}
use Rattle.serve_client.specs.declared.stop.Stop.TheVariants.{Whole, Read, Write, Refused, Torn}
use Rattle.serve_client.specs.Clients.{ClientProgress, ClientStopsAt, GivesUpAt, IsUnclosed}
use Rattle.serve_client.specs.Laws.{HidesLater, InputFaultIsTold, IsOfGivingUp, TellsFault}

module _ (len : ℕ) (bytes : List ℕ) (fault : ReadFault) (left : Option (List ℕ)) (of_bytes : IsOfBytes fault)
    (stands : StandsAtFrame len fault (Some bytes) left) where
  not_at_end : (rest : Option (List ℕ)) → rest ≡ Some bytes → IsAtEnd rest → ⊥
  not_at_end rest same ended =
      let none : Result (Option FrameText) ReadFault = Ok None in
      let both : none ≡ Err fault = one_answer len bytes none (Err fault) (subst IsAtEnd same ended) (of_bytes, (left, stands)) in cc

  no_frame : (frame : FrameText) (more : Option (List ℕ)) → IsFrameOf len frame → Consumes (Some bytes) more (text_of frame) → ⊥
  no_frame frame None is taken = taken
  no_frame frame (Some more) is taken =
      let some : Result (Option FrameText) ReadFault = Ok (Some frame) in
      let both : some ≡ Err fault = one_answer len bytes some (Err fault) (is, (more, taken)) (of_bytes, (left, stands)) in cc

  no_next : (rest after : Option (List ℕ)) → rest ≡ Some bytes → HasNext len rest after → ⊥
  no_next rest after same next =
      no_frame next.frame next.more next.is_frame (subst (λ r. Consumes r next.more (text_of next.frame)) same next.taken)

  one_fault : (told : ReadFault) (after : Option (List ℕ)) → IsOfBytes told → StandsAtFrame len told (Some bytes) after → told ≡ fault
  one_fault told after of_told there =
      let first : Result (Option FrameText) ReadFault = Err told in
      let both : first ≡ Err fault = one_answer len bytes first (Err fault) (of_told, (after, there)) (of_bytes, (left, stands)) in cc

  module _ (count most : ℕ) (rest after : Option (List ℕ)) (calls : List Act) (same : rest ≡ Some bytes) where
    abbrev at : ClientProgress
    at = record { len = len; count = count; most = most; rest = rest; left = after; calls = calls }

    told_at : (stop : Stop) → ClientStopsAt stop at → TellsFault fault stop ⊎ HidesLater stop
    told_at Whole a = absurd (not_at_end rest same a.0)
    told_at (Read told) a = inl (told, refl, λ of_told. one_fault told after of_told (subst (λ r. StandsAtFrame len told r after) same a))
    told_at (Refused TooManyFrames) a = absurd (no_next rest after same a.1)
    told_at (Refused ClockEnd) a = absurd (no_next rest after same a)
    told_at (Refused NoMemory) a = absurd (no_next rest after same a)
    told_at (Write f) a = inr tt
    told_at Torn a = inr tt

    -- of a stream that was given up
    of_giving_up : (stop : Stop) → GivesUpAt stop at → IsOfGivingUp stop × IsUnclosed calls
    of_giving_up Whole a = absurd a
    of_giving_up (Read told) a = absurd a
    of_giving_up (Refused TooManyFrames) a = absurd a
    of_giving_up (Refused ClockEnd) a = absurd a
    of_giving_up (Refused NoMemory) (inl a) = absurd (not_at_end rest same a.0)
    of_giving_up (Refused NoMemory) (inr a) = (tt, a.0)
    of_giving_up (Write f) a = (tt, a.0)
    of_giving_up Torn a = (tt, a.0)

-- a client that was cut off before it read anything, or such a stop
or_told : (A B P Q : Type 0) → (P → Q) → A ⊎ B ⊎ P → A ⊎ B ⊎ Q
or_told A B P Q f (inl a) = inl a
or_told A B P Q f (inr (inl a)) = inr (inl a)
or_told A B P Q f (inr (inr a)) = inr (inr (f a))

-- and a stream that may have been given up
or_given_up : (A B P Q R S : Type 0) → (P → Q) → (R → S) → A ⊎ B ⊎ (P ⊎ R) → (A ⊎ B ⊎ Q) ⊎ S
or_given_up A B P Q R S f g (inl a) = inl (inl a)
or_given_up A B P Q R S f g (inr (inl a)) = inl (inr (inl a))
or_given_up A B P Q R S f g (inr (inr (inl a))) = inl (inr (inr (f a)))
or_given_up A B P Q R S f g (inr (inr (inr a))) = inr (g a)

pub input_fault_is_told : InputFaultIsTold
input_fault_is_told start past seat end fault bytes left of_bytes stands =
    let len : ℕ = data_len_of start.reader.header in
    let calls : List Act = past ++ seat.calls.list in (
      λ e same. or_told _ _ _ _
          (told_at len bytes fault left of_bytes stands end.accepted start.seat.frames e.rest end.left calls same end.stop) e.stops,
      λ e same. or_given_up _ _ _ _ _ _
          (told_at len bytes fault left of_bytes stands end.accepted start.seat.frames e.rest end.left calls same end.stop)
          (of_giving_up len bytes fault left of_bytes stands end.accepted start.seat.frames e.rest end.left calls same end.stop) e.stops,
    )
