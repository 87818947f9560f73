-- The specs of the streams, which stay, and to which an admission adds one.
use Rattle.std.proofs.Common.{ℕ, zero, suc, ◌≡◌, ◌<◌, List, [], ◌∷◌, ◌++◌, map, length, Option, Some, None, slice_get}
use Rattle.std.proofs.Common.{refl, sym, ◌∙◌, ap, subst, arith, append_assoc, length-append}
use Rattle.std.specs.Bool.{⊤}
use Rattle.std.proofs.lemmas.List.{length-map, map_push}
use Rattle.frame_view.specs.declared.geometry.Geometry.{Geometry}
use Rattle.serve_core.specs.AtOnce.{bands}
use Rattle.serve_core.specs.Bare.{Blank}
use Rattle.serve_core.specs.Counts.{Deed, deed}
use Rattle.serve_core.specs.Desk.{LeadsDesk, bare_frames, desk_state, settlement}
use Rattle.serve_core.specs.Events.{Admit, Admitted, Event, Reply, Start, Then, Transcript, joined, with_admitted}
use Rattle.serve_core.specs.Leads.{state_from}
use Rattle.serve_core.specs.Schedule.{ScheduleValue, stream_by}
use Rattle.serve_core.specs.Setup.{StreamSpec}
use Rattle.serve_core.specs.States.{State, StreamState, after, did_any, held_at, map_at, new_stream}
use Rattle.serve_core.specs.Streams.{KeptStream}
use Rattle.serve_core.proofs.Events.Releases.{same_spec}
use Rattle.serve_hub.specs.declared.entry.Act.{Act}
use Rattle.serve_hub.specs.declared.entry.Act.TheVariants as acts
use Rattle.serve_hub.specs.declared.entry.Entry.{Entry}
use Rattle.serve_hub.specs.declared.entry.Seat.{Seat}
use Rattle.serve_hub.specs.declared.entry.Seat.TheVariants as seats
use Rattle.serve_hub.specs.Books.{Appends, BookValue, specs_of}
use Rattle.serve_hub.specs.Journal.{AreEntries, IsEntry, admission_of, events_of, number_of, transcript_of}

-- a spec of frames of the size that its chain is for
pub of_its_chain : (spec : StreamSpec) → spec.geometry ≡ spec.chain.geometry
    → spec ≡ record spec { geometry = spec.chain.geometry }
of_its_chain spec e = ap (λ (g : Geometry). record spec { geometry = g }) e

abbrev specs_in : State Blank → List StreamSpec
specs_in m = map (λ x. x.spec) m.streams

specs_still : (f : ℕ → StreamState Blank → Option (Deed Blank)) (i : ℕ) (xs : List (StreamState Blank))
    → map (λ x. x.spec) (map_at i (λ s x. did_any x (f s x)) xs) ≡ map (λ x. x.spec) xs
specs_still f i [] = refl
specs_still f i (x ∷ xs) =
    let head = same_spec x (f i x) in
    let tail = specs_still f (suc i) xs in
    cc

-- what an event makes of the specs
specs_joined : (e : Event Blank) (r : Reply Blank Blank) (xs : List (StreamState Blank))
    → map (λ x. x.spec) (with_admitted new_stream e r xs) ≡ with_admitted (λ spec. spec) e r (map (λ x. x.spec) xs)
specs_joined (Admit spec) (Admitted s) xs = map_push (λ (x : StreamState Blank). x.spec) xs (new_stream spec)
specs_joined e r xs = refl

specs_after : (m : State Blank) (e : Event Blank) (r : Reply Blank Blank)
    → specs_in (after m e r) ≡ with_admitted (λ spec. spec) e r (specs_in m)
specs_after m e r =
    specs_joined e r (map_at 0 (λ s x. did_any x (deed s m.clock (held_at m.workers) e r)) m.streams)
    ∙ ap (λ (specs : List StreamSpec). with_admitted (λ spec. spec) e r specs)
    (specs_still (λ s x. deed s m.clock (held_at m.workers) e r) 0 m.streams)

-- the streams that a transcript admits, in order
abbrev pub added : Transcript Blank Blank → List StreamSpec
added Start = []
added (Then p e r) = with_admitted (λ spec. spec) e r (added p)

behind : (e : Event Blank) (r : Reply Blank Blank) (xs ys : List StreamSpec)
    → with_admitted (λ spec. spec) e r (xs ++ ys) ≡ xs ++ with_admitted (λ spec. spec) e r ys
behind (Admit spec) (Admitted s) xs ys = append_assoc xs ys (spec ∷ [])
behind e r xs ys = refl

append_none : (xs : List StreamSpec) → xs ≡ xs ++ []
append_none [] = refl
append_none (x ∷ xs) = ap (λ ys. x ∷ ys) (append_none xs)

specs_from : (m : State Blank) (p : Transcript Blank Blank)
    → specs_in (state_from m p) ≡ specs_in m ++ added p
specs_from m Start = append_none (specs_in m)
specs_from m (Then p e r) =
    specs_after (state_from m p) e r
    ∙ ap (λ (specs : List StreamSpec). with_admitted (λ spec. spec) e r specs) (specs_from m p)
    ∙ behind e r (specs_in m) (added p)

specs_seen : (streams : List KeptStream)
    → map (λ x. x.spec) (map (stream_by bare_frames) streams) ≡ map (λ stream. stream.state.spec) streams
specs_seen [] = refl
specs_seen (stream ∷ streams) = ap (λ (specs : List StreamSpec). stream.state.spec ∷ specs) (specs_seen streams)

-- what a call leads to has the streams that were there, and perhaps more behind them
pub specs_led : (x y : ScheduleValue) (p : Transcript Blank Blank) → LeadsDesk x p y
    → specs_of y ≡ specs_of x ++ added p
specs_led x y p led =
    sym (specs_seen y.streams)
    ∙ ap specs_in (sym led.1)
    ∙ specs_from (desk_state x) p
    ∙ ap (λ (specs : List StreamSpec). specs ++ added p) (specs_seen x.streams)

-- an act that admits no stream
abbrev pub AdmitsNone : Act → Type 0
AdmitsNone acts.Admitted = ⊥
AdmitsNone act = ⊤

none_banded : (w k : ℕ) → added (bands w k) ≡ []
none_banded w zero = refl
none_banded w (suc k) = none_banded w k

none_settled : (w k : ℕ) (number : Option ℕ) → added (settlement w k number) ≡ []
none_settled w k None = none_banded w k
none_settled w k (Some number) = none_banded w k

none_added : (specs : List StreamSpec) (m : State Blank) (seat : Seat) (act : Act) → AdmitsNone act
    → added (events_of specs m seat act) ≡ []
none_added specs m (seats.Stream s) (acts.Offered None number) is = refl
none_added specs m (seats.Stream s) (acts.Offered (Some moment) number) is = refl
none_added specs m (seats.Stream s) acts.Admitted is = absurd is
none_added specs m (seats.Stream s) act is = refl
none_added specs m (seats.Worker w) (acts.Settled k is_finished) is =
    none_settled w k (number_of is_finished (held_at m.workers w))
none_added specs m (seats.Worker w) act is = refl

-- then there are as many streams as before
pub same_count : (seat : Seat) (act : Act) (old new : BookValue) → Appends seat act old new → AdmitsNone act
    → length new.desk.streams ≡ length old.desk.streams
same_count seat act old new is none =
    let p = events_of (specs_of new.desk) (desk_state old.desk) seat act in
    let spec = λ (stream : KeptStream). stream.state.spec in
    omega (
      arith,
      ap length (specs_led old.desk new.desk p is.events),
      length-append (specs_of old.desk) (added p),
      ap length (none_added (specs_of new.desk) (desk_state old.desk) seat act none),
      length-map old.desk.streams spec,
      length-map new.desk.streams spec,
    )

get_first : (xs ys : List StreamSpec) (s : ℕ) → s < length xs → slice_get (xs ++ ys) s ≡ slice_get xs s
get_first [] ys s l = absurd (omega (arith, l))
get_first (x ∷ xs) ys zero l = refl
get_first (x ∷ xs) ys (suc s) l = get_first xs ys s (omega (arith, l))

-- an entry stands for the same events where more streams were admitted behind its own
same_events : (xs ys : List StreamSpec) (m : State Blank) (seat : Seat) (act : Act) → IsEntry xs m seat act
    → events_of (xs ++ ys) m seat act ≡ events_of xs m seat act
same_events xs ys m (seats.Stream s) acts.Admitted is = ap (admission_of s) (get_first xs ys s is)
same_events xs ys m (seats.Stream s) act is = refl
same_events xs ys m (seats.Worker w) act is = refl

is_still : (xs ys : List StreamSpec) (m : State Blank) (seat : Seat) (act : Act) → IsEntry xs m seat act
    → IsEntry (xs ++ ys) m seat act
is_still xs ys m (seats.Stream s) acts.Admitted is = omega (arith, is, length-append xs ys)
is_still xs ys m (seats.Stream s) act is = is
is_still xs ys m (seats.Worker w) act is = is

pub same_transcript : (xs ys : List StreamSpec) (opening : State Blank) (past : List Entry)
    → AreEntries xs opening past → transcript_of (xs ++ ys) opening past ≡ transcript_of xs opening past
same_transcript xs ys opening [] are = refl
same_transcript xs ys opening (e ∷ past) are =
    let before = same_transcript xs ys opening past are.0 in
    let m = state_from opening (transcript_of xs opening past) in
    ap (λ (p : Transcript Blank Blank). joined p (events_of (xs ++ ys) (state_from opening p) e.seat e.act)) before
    ∙ ap (joined (transcript_of xs opening past)) (same_events xs ys m e.seat e.act are.1)

pub still_entries : (xs ys : List StreamSpec) (opening : State Blank) (past : List Entry)
    → AreEntries xs opening past → AreEntries (xs ++ ys) opening past
still_entries xs ys opening [] are = tt
still_entries xs ys opening (e ∷ past) are = (
  still_entries xs ys opening past are.0,
  subst (λ (p : Transcript Blank Blank). IsEntry (xs ++ ys) (state_from opening p) e.seat e.act)
      (sym (same_transcript xs ys opening past are.0))
      (is_still xs ys (state_from opening (transcript_of xs opening past)) e.seat e.act are.1),
)
