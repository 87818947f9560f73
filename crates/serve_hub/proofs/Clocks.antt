-- The clock along a journal.
use Rattle.std.proofs.Common.{ℕ, zero, suc, ◌+◌, ◌≡◌, ◌≤◌, ◌<◌, List, [], ◌∷◌, ◌++◌, Option, Some, None}
use Rattle.std.proofs.Common.{IfSome, IsSomeAnd, drop, length, reverse, slice_get, slice_index_or, take, refl, sym, ◌∙◌, ap}
use Rattle.std.proofs.Common.{subst, arith}
use Rattle.std.proofs.lemmas.List.{reverse-append, take-append-drop, take_more}
use Rattle.serve_core.specs.AtOnce.{bands}
use Rattle.serve_core.specs.Bare.{Blank}
use Rattle.serve_core.specs.Desk.{settlement}
use Rattle.serve_core.specs.Events.{Transcript}
use Rattle.serve_core.specs.Leads.{state_from}
use Rattle.serve_core.specs.Setup.{StreamSpec}
use Rattle.serve_core.specs.States.{State, held_at}
use Rattle.serve_core.proofs.Transcripts.Openings.{joined_state}
use Rattle.serve_hub.specs.declared.entry.Act.{Act}
use Rattle.serve_hub.specs.declared.entry.Act.TheVariants.{Admitted, Offered, Settled}
use Rattle.serve_hub.specs.declared.entry.Entry.{Entry}
use Rattle.serve_hub.specs.declared.entry.Seat.{Seat}
use Rattle.serve_hub.specs.declared.entry.Seat.TheVariants.{Stream, Worker}
use Rattle.serve_hub.specs.declared.moments.Moments.{Moments}
use Rattle.serve_hub.specs.Ends.{ClockReached, IsOfferOf, clock_after}
use Rattle.serve_hub.specs.Journal.{admission_of, clock_in, events_of, number_of, tick_of, transcript_of}
use Rattle.serve_hub.proofs.Journals.{joined_transcript}

-- an offer tells a moment only where that is later than the clock
pub tick_later : (clock at : ℕ) → IfSome (tick_of clock at) (λ moment. clock < moment)
tick_later clock at = grind arith

still_admitted : (m : State Blank) (s : ℕ) (spec : Option StreamSpec) → (state_from m (admission_of s spec)).clock ≡ m.clock
still_admitted m s None = refl
still_admitted m s (Some spec) = refl

still_banded : (m : State Blank) (w k : ℕ) → (state_from {G = Blank} m (bands w k)).clock ≡ m.clock
still_banded m w zero = refl
still_banded m w (suc k) = still_banded m w k

still_settled : (m : State Blank) (w k : ℕ) (number : Option ℕ) → (state_from m (settlement w k number)).clock ≡ m.clock
still_settled m w k None = still_banded m w k
still_settled m w k (Some number) = still_banded m w k

-- only an offer's tick moves the clock
after_is : (specs : List StreamSpec) (m : State Blank) (seat : Seat) (act : Act)
    → (state_from m (events_of specs m seat act)).clock ≡ clock_after m.clock seat act
after_is specs m (Stream s) (Offered None number) = refl
after_is specs m (Stream s) (Offered (Some moment) number) = refl
after_is specs m (Stream s) Admitted = still_admitted m s (slice_get specs s)
after_is specs m (Stream s) act = refl
after_is specs m (Worker w) (Settled k is_finished) = still_settled m w k (number_of is_finished (held_at m.workers w))
after_is specs m (Worker w) act = refl

pub clock_step : (specs : List StreamSpec) (opening : State Blank) (past : List Entry) (e : Entry)
    → clock_in specs opening (e ∷ past) ≡ clock_after (clock_in specs opening past) e.seat e.act
clock_step specs opening past e =
    let p = transcript_of specs opening past in
    let m = state_from opening p in
    ap (λ (n : State Blank). n.clock) (joined_state opening p (events_of specs m e.seat e.act))
    ∙ after_is specs m e.seat e.act

-- behind a journal that led to a state, the clock goes on as from there
pub clock_joined : (specs : List StreamSpec) (l m : State Blank) (first second : List Entry)
    → state_from l (transcript_of specs l first) ≡ m → clock_in specs l (second ++ first) ≡ clock_in specs m second
clock_joined specs l m first second e =
    let q = transcript_of specs m second in
    ap (λ (t : Transcript Blank Blank). (state_from l t).clock) (joined_transcript specs l m first second e)
    ∙ ap (λ (n : State Blank). n.clock) (joined_state l (transcript_of specs l first) q)
    ∙ ap (λ (n : State Blank). (state_from n q).clock) e

-- the entries before one that is read, and with it
taken_more : (journal : List Entry) (i : ℕ) (d : Entry) → i < length journal
    → reverse (take (i + 1) journal) ≡ slice_index_or journal i d ∷ reverse (take i journal)
taken_more journal i d less =
    ap reverse (take_more journal i d less) ∙ reverse-append (take i journal) (slice_index_or journal i d ∷ [])

-- one entry more, after which the clock has reached what it should
pub reached_more : (s : ℕ) (moments : Option Moments) (specs : List StreamSpec) (opening : State Blank) (journal : List Entry)
    (i : ℕ) (d : Entry) (clock after : ℕ) → i < length journal
    → (clock ≡ clock_in specs opening (reverse (take i journal))) × ClockReached s moments specs opening (reverse (take i journal))
    → let e = slice_index_or journal i d in after ≡ clock_after clock e.seat e.act
    → (IsOfferOf s e.seat e.act → IsSomeAnd moments (λ m. m.first ≤ after))
    → (after ≡ clock_in specs opening (reverse (take (i + 1) journal)))
    × ClockReached s moments specs opening (reverse (take (i + 1) journal))
reached_more s moments specs opening journal i d clock after less at stands here =
    let e = slice_index_or journal i d in
    let past = reverse (take i journal) in
    let same : after ≡ clock_in specs opening (e ∷ past) =
    stands ∙ ap (λ (c : ℕ). clock_after c e.seat e.act) at.0 ∙ sym (clock_step specs opening past e) in
    subst (λ (j : List Entry). (after ≡ clock_in specs opening j) × ClockReached s moments specs opening j)
    (sym (taken_more journal i d less))
    (same, (at.1, λ is. subst (λ (c : ℕ). IsSomeAnd moments (λ m. m.first ≤ c)) same (here is)))

-- what the clock had reached by a journal, it had by its first entries
reached_before : (s : ℕ) (moments : Option Moments) (specs : List StreamSpec) (opening : State Blank) (later past : List Entry)
    → ClockReached s moments specs opening (later ++ past) → ClockReached s moments specs opening past
reached_before s moments specs opening [] past reached = reached
reached_before s moments specs opening (e ∷ later) past reached =
    reached_before s moments specs opening later past reached.0

-- so it had reached what it should at an entry
pub reached_at : (s : ℕ) (moments : Option Moments) (specs : List StreamSpec) (opening : State Blank) (journal : List Entry)
    (i : ℕ) (d : Entry) (clock after : ℕ) → i < length journal → clock ≡ clock_in specs opening (reverse (take i journal))
    → let e = slice_index_or journal i d in after ≡ clock_after clock e.seat e.act
    → ClockReached s moments specs opening (reverse journal) → IsOfferOf s e.seat e.act
    → IsSomeAnd moments (λ m. m.first ≤ after)
reached_at s moments specs opening journal i d clock after less at stands reached offer =
    let e = slice_index_or journal i d in
    let past = reverse (take i journal) in
    let later = reverse (drop (i + 1) journal) in
    let split : reverse journal ≡ later ++ (e ∷ past) =
    ap reverse (sym (take-append-drop (i + 1) journal))
    ∙ reverse-append (take (i + 1) journal) (drop (i + 1) journal)
    ∙ ap (λ (xs : List Entry). later ++ xs) (taken_more journal i d less) in
    let here = reached_before s moments specs opening later (e ∷ past)
    (subst (ClockReached s moments specs opening) split reached) in
    let same : after ≡ clock_in specs opening (e ∷ past) =
    stands ∙ ap (λ (c : ℕ). clock_after c e.seat e.act) at ∙ sym (clock_step specs opening past e) in
    subst (λ (c : ℕ). IsSomeAnd moments (λ m. m.first ≤ c)) (sym same) (here.1 offer)
