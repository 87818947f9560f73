-- What the streams of a session come to, turn by turn.
use Rattle.std.specs.Prelude.{All, IfOk, IfSome, IsErrAnd, IsFalse, MatchOption, drop, take, unwrap_or, ⊤, Bool, true, false}
use Rattle.std.specs.Prelude.{filter, reverse}
use Rattle.std.specs.List.{AllByRecursion, AllZip}
use Rattle.std.proofs.Common.{append_assoc, ◌≡◌, ◌≢◌, IfErr, ℕ, suc, ◌<◌, List, [], ◌∷◌, ◌++◌, length, get_or}
use Rattle.std.proofs.Common.{map, Option, Some, None, append-nil, take_all, Result, Ok, Err, inl, inr, ◌⊎◌}
use Rattle.std.proofs.Common.{refl, sym, ap, ◌∙◌, subst, arith}
use Rattle.std.proofs.lemmas.List.{drop_all, map-append, reverse-append}
use Rattle.std.proofs.lemmas.List.Elements.{filter-append}
use Rattle.y4m_stream.specs.Reader.{ReaderState}
use Rattle.serve_core.specs.Bare.{Blank}
use Rattle.serve_core.specs.Desk.{desk_state}
use Rattle.serve_core.specs.Leads.{state_from}
use Rattle.serve_core.specs.Schedule.{ScheduleValue}
use Rattle.serve_core.specs.Setup.{StreamSpec}
use Rattle.serve_core.specs.States.{State}
use Rattle.serve_hub.specs.declared.entry.Act.{Act}
use Rattle.serve_hub.specs.declared.entry.Entry.{Entry}
use Rattle.serve_hub.specs.declared.entry.Seat.{Seat}
use Rattle.serve_hub.specs.declared.entry.Seat.TheVariants as numbered
use Rattle.serve_hub.specs.declared.moments.Moments.{Moments}
use Rattle.serve_hub.specs.Books.{specs_of}
use Rattle.serve_hub.specs.Ends.{AreStreamCalls, ClockReached, acts_of, is_same_seat}
use Rattle.serve_hub.specs.Journal.{AreEntries, transcript_of}
use Rattle.serve_hub.specs.Seats.{StreamSeatValue, spec_told}
use Rattle.serve_client.specs.Clients.{AreAtMoments, ClientStart}
use Rattle.serve_client.specs.Rests.{Begun, Unbegun}
use Rattle.serve_client.specs.Streams.{Over, ServedValue, StandsAt, StreamValue, Waiting}
use Rattle.serve_client.specs.Clients.{ClientLeft}
use Rattle.serve_client.proofs.Tallying.{KeepsMoments-same}
use Rattle.serve_work.specs.declared.session.SessionFault.{SessionFault}
use Rattle.serve_work.specs.declared.session.SessionFault.TheVariants.{BadLimit, Mismatch, NoMemory}
use Rattle.serve_work.specs.declared.session.unended.Unended.{Unended}
use Rattle.serve_work.specs.declared.session.unended.Unended.TheVariants as unended
use Rattle.serve_work.specs.Intervals.{HasNoCalls}
use Rattle.serve_work.specs.Entries.{AreTimed}
use Rattle.serve_work.specs.Sessions.{AllTimed, AreInputs, GivesBack, acts_in, fault_of, unread}
use Rattle.serve_work.specs.SessionInside.{AllBegin, AllGoOn, AllLeave, AllRun, AllStand, AreAllOver, AreOver, AreUnread}
use Rattle.serve_work.specs.SessionInside.{IsUnended}
use Rattle.serve_work.specs.SessionInside.{GoesOn, HeldValue, IsReady, Runs, Stands}
use Rattle.serve_work.specs.SessionInside.{held_at, held_with, outcomes_of}
use Rattle.serve_work.proofs.Timing.{timed, timed_on}

pub are_unread : {W : Type 0} (specs : List StreamSpec) (inputs : List (ReaderState × W)) → AreInputs specs inputs → AreUnread inputs
are_unread [] [] p = tt
are_unread [] (input ∷ inputs) p = absurd p
are_unread (spec ∷ specs) [] p = absurd p
are_unread (spec ∷ specs) (input ∷ inputs) p = (p.0.is_open, are_unread specs inputs p.1)

-- the seat of a stream has its number
pub seat_number : (start : ClientStart) (past : List Act) (seat : StreamSeatValue) (stream : StreamValue) → StandsAt stream start past seat
    → seat.number ≡ start.seat.number
seat_number start past seat (Waiting (Unbegun reader contents failures)) a = a.stays.number
seat_number start past seat (Waiting (Begun begun)) a = a.tally.number
seat_number start past seat (Over outcome) a = a.0.number

-- and what it tells of its spec stays
pub seat_spec : (start : ClientStart) (past : List Act) (seat : StreamSeatValue) (stream : StreamValue) → StandsAt stream start past seat
    → spec_told seat ≡ spec_told start.seat
seat_spec start past seat (Waiting (Unbegun reader contents failures)) a = a.stays.spec
seat_spec start past seat (Waiting (Begun begun)) a = a.tally.spec
seat_spec start past seat (Over outcome) a = a.0.spec

-- what a seat did by two journals, one behind the other

acts_both : (seat : Seat) (xs ys : List Entry) → acts_of seat (xs ++ ys) ≡ acts_of seat xs ++ acts_of seat ys
acts_both seat xs ys =
    ap (map (λ (e : Entry). e.act)) (filter-append (λ (e : Entry). is_same_seat seat e.seat) xs ys)
    ∙ map-append (λ (e : Entry). e.act) (filter (λ (e : Entry). is_same_seat seat e.seat) xs)
    (filter (λ (e : Entry). is_same_seat seat e.seat) ys)

pub acts_behind : (start : ClientStart) (first second : List Entry)
    → acts_in (second ++ first) start ≡ acts_in first start ++ acts_in second start
acts_behind start first second =
    ap (acts_of (numbered.Stream start.seat.number)) (reverse-append second first)
    ∙ acts_both (numbered.Stream start.seat.number) (reverse first) (reverse second)

-- where each stream began and went on, by calls that are its entries, it stands

own_calls : (more : List Entry) (start : ClientStart) (past : List Act) (held : HeldValue) → Stands start past held
    → acts_of (numbered.Stream held.seat.number) (reverse more) ≡ held.seat.calls.list → held.seat.calls.list ≡ acts_in more start
own_calls more start past held at own =
    sym own ∙ ap (λ (n : ℕ). acts_of (numbered.Stream n) (reverse more)) (seat_number start past held.seat held.stream at)

module _ (Gives : ℕ → Type 0) (journal more : List Entry) where
  pub stand_on : (starts : List ClientStart) (helds after : List HeldValue) → AllBegin journal starts helds → AllGoOn Gives helds after
      → AreStreamCalls (reverse more) (map (λ held. held.seat) after) → AllStand (more ++ journal) starts after
  stand_on [] [] [] p q calls = tt
  stand_on [] [] (held ∷ after) p q calls = absurd q
  stand_on [] (held ∷ helds) after p q calls = absurd p
  stand_on (start ∷ starts) [] after p q calls = absurd p
  stand_on (start ∷ starts) (held ∷ helds) [] p q calls = absurd q
  stand_on (start ∷ starts) (held ∷ helds) (next ∷ after) p q calls =
      let past : List Act = acts_in journal start in
      let at : Stands start past next = q.0.0 start past p.0 in
      let own = own_calls more start past next at (calls 0 next.seat (omega arith)) in (
        (past, at, ap (λ (acts : List Act). past ++ acts) own ∙ sym (acts_behind start journal more)),
        stand_on starts helds after p.1 q.1 (λ k d less. calls (suc k) d (omega (arith, less))),
      )

  -- and its frames of these entries have moments that the clock may give, by the journal's own clock
  pub each_timed : (specs : List StreamSpec) (m : State Blank) (starts : List ClientStart) (helds after : List HeldValue)
      → AreEntries specs m more → AllBegin journal starts helds → AllGoOn Gives helds after
      → AreStreamCalls (reverse more) (map (λ held. held.seat) after)
      → All (λ s. ClockReached s.number s.moments specs m more) (map (λ held. held.seat) after)
      → AllByRecursion (λ held. HasNoCalls held.seat) helds
      → AllByRecursion (λ start. AreTimed Gives start.seat.number specs m more) starts
  each_timed specs m [] helds after entries p q calls reached none = tt
  each_timed specs m (start ∷ starts) [] after entries p q calls reached none = absurd p
  each_timed specs m (start ∷ starts) (held ∷ helds) [] entries p q calls reached none = absurd q
  each_timed specs m (start ∷ starts) (held ∷ helds) (next ∷ after) entries p q calls reached none =
      let past : List Act = acts_in journal start in
      let at : Stands start past next = q.0.0 start past p.0 in
      let number : next.seat.number ≡ start.seat.number = seat_number start past next.seat next.stream at in
      let own : next.seat.calls.list ≡ acts_in more start = own_calls more start past next at (calls 0 next.seat (omega arith)) in (
        timed Gives start.seat.number next.seat.moments specs m more entries
            (subst (λ (s : ℕ). ClockReached s next.seat.moments specs m more) number (reached 0 next.seat (omega arith)))
            (q.0.1.first (subst (λ (o : Option Moments). IfSome o (λ t. Gives t.first)) (sym none.0.1) tt))
            (subst (AreAtMoments Gives) own (q.0.1.calls (subst (AreAtMoments Gives) (sym none.0.0) tt))),
        each_timed specs m starts helds after entries p.1 q.1 (λ k d less. calls (suc k) d (omega (arith, less)))
            (λ k d less. reached (suc k) d (omega (arith, less))) none.1,
      )

  -- behind a journal that led to where these begin, both together have them
  pub all_timed : (first last : ScheduleValue) (starts : List ClientStart)
      → state_from (desk_state first) (transcript_of (specs_of first) (desk_state first) journal) ≡ desk_state last
      → AllTimed Gives first journal starts
      → AllByRecursion (λ start. AreTimed Gives start.seat.number (specs_of first) (desk_state last) more) starts
      → AllTimed Gives first (more ++ journal) starts
  all_timed first last [] led given here = tt
  all_timed first last (start ∷ starts) led given here = (
    timed_on Gives start.seat.number (specs_of first) (desk_state first) (desk_state last) journal more led given.0 here.0,
    all_timed first last starts led given.1 here.1,
  )

pub none_yet : (Gives : ℕ → Type 0) (first : ScheduleValue) (starts : List ClientStart) → AllTimed Gives first [] starts
none_yet Gives first [] = tt
none_yet Gives first (start ∷ starts) = (tt, none_yet Gives first starts)

pub same_length : {A B : Type 0} (f : A → B) (xs : List A) → length (map f xs) ≡ length xs
same_length f [] = refl
same_length f (x ∷ xs) = ap suc (same_length f xs)

pub zip_length : {A B : Type 0} (P : A → B → Type 0) (xs : List A) (ys : List B) → AllZip P xs ys → length ys ≡ length xs
zip_length P [] [] p = refl
zip_length P [] (y ∷ ys) p = absurd p
zip_length P (x ∷ xs) [] p = absurd p
zip_length P (x ∷ xs) (y ∷ ys) p = ap suc (zip_length P xs ys p.1)

-- where the stream of each turn went on, all did
all_run_from : (Gives : ℕ → Type 0) (helds : List HeldValue) (new : List (Option HeldValue)) → length new ≡ length helds
    → ((i : ℕ) (d : Option HeldValue) → i < length helds → Runs Gives (get_or (map Some helds) i d) (get_or new i d))
    → (after : List HeldValue) × (new ≡ map Some after) × AllGoOn Gives helds after
all_run_from Gives [] [] len each = ([], refl, tt)
all_run_from Gives [] (turn ∷ new) len each = absurd (omega (arith, len))
all_run_from Gives (held ∷ helds) [] len each = absurd (omega (arith, len))
all_run_from Gives (held ∷ helds) (None ∷ new) len each = absurd (each 0 None (omega arith) held refl)
all_run_from Gives (held ∷ helds) (Some next ∷ new) len each =
    let here : GoesOn Gives held next = each 0 None (omega arith) held refl in
    let rest = all_run_from Gives helds new (omega (arith, len)) (λ i d less. each (suc i) d (omega (arith, less))) in
    (next ∷ rest.0, ap (λ ts. Some next ∷ ts) rest.1, (here, rest.2))

pub all_run : (Gives : ℕ → Type 0) (old new : List (Option HeldValue)) → length new ≡ length old
    → ((i : ℕ) (d : Option HeldValue) → i < length old → Runs Gives (get_or old i d) (get_or new i d)) → AllRun Gives old new
all_run Gives old new len each helds e = all_run_from Gives helds new
    (len ∙ ap length e ∙ same_length Some helds)
    (λ i d less. subst (λ (turns : List (Option HeldValue)). Runs Gives (get_or turns i d) (get_or new i d)) e
    (each i d (omega (arith, less, ap length e, same_length Some helds))))

pub all_went : (Gives : ℕ → Type 0) (helds after : List HeldValue) → AllGoOn Gives helds after → length after ≡ length helds
all_went Gives [] [] p = refl
all_went Gives [] (held ∷ after) p = absurd p
all_went Gives (held ∷ helds) [] p = absurd p
all_went Gives (held ∷ helds) (next ∷ after) p = ap suc (all_went Gives helds after p.1)

-- where none runs, all stay
go_on_none : (Gives : ℕ → Type 0) (helds : List HeldValue) → AllGoOn Gives helds helds
go_on_none Gives [] = tt
go_on_none Gives (held ∷ helds) =
    (((λ start past at. at), KeepsMoments-same Gives held.seat held.seat refl, λ allowed. allowed), go_on_none Gives helds)

pub all_stay : (Gives : ℕ → Type 0) (items : List (Option HeldValue)) → AllRun Gives items items
all_stay Gives items helds e = (helds, e, go_on_none Gives helds)

-- turns that ran in the places of a list, which are all of it
pub all_run_whole : (Gives : ℕ → Type 0) (items new : List (Option HeldValue)) (len : ℕ) → len ≡ length items → AllRun Gives items new
    → AllRun Gives items (take len (new ++ drop (length new) items))
all_run_whole Gives items new len is ran helds e =
    let run = ran helds e in
    let same : length new ≡ length items =
    ap length run.1 ∙ same_length Some run.0 ∙ all_went Gives helds run.0 run.2 ∙ sym (ap length e ∙ same_length Some helds) in
    let whole : take len (new ++ drop (length new) items) ≡ new =
    ap (λ z. take len (new ++ z)) (drop_all (length new) items (omega (arith, same)))
    ∙ ap (take len) (append-nil new) ∙ take_all len new (omega (arith, is, same)) in
    (run.0, whole ∙ run.1, run.2)

-- the first of some turns
pub first_held : (turn : Option HeldValue) (turns : List (Option HeldValue)) (helds : List HeldValue)
    → turn ∷ turns ≡ map Some helds
    → (held : HeldValue) × (rest : List HeldValue) × (helds ≡ held ∷ rest) × (turn ≡ Some held) × (turns ≡ map Some rest)
first_held turn turns [] e = absurd (omega (arith, ap length e))
first_held turn turns (held ∷ rest) e = (held, rest, refl, cc, cc)

-- where no seat or no stream is left, all turns are there
pub all_seated : (turns all : List (Option HeldValue)) (seats : List StreamSeatValue) (streams : List StreamValue)
    → (length seats ≡ 0) ⊎ (length streams ≡ 0) → turns ++ map Some (held_with seats streams) ≡ all → turns ≡ all
all_seated turns all [] streams p e = sym (append-nil turns) ∙ e
all_seated turns all (seat ∷ seats) [] p e = sym (append-nil turns) ∙ e
all_seated turns all (seat ∷ seats) (stream ∷ streams) (inl p) e = absurd (omega (arith, p))
all_seated turns all (seat ∷ seats) (stream ∷ streams) (inr p) e = absurd (omega (arith, p))

-- one seat more has its stream
pub seated_more : (turns turns' all : List (Option HeldValue)) (seats seats' : List StreamSeatValue)
    (streams streams' : List StreamValue) (seat : StreamSeatValue) (s : StreamValue) (turn : Option HeldValue) → seats ≡ seat ∷ seats' → streams ≡ s ∷ streams'
    → turns ++ map Some (held_with seats streams) ≡ all → turn ≡ Some (held_at seat s) → turns' ≡ turns ++ turn ∷ []
    → turns' ++ map Some (held_with seats' streams') ≡ all
seated_more turns turns' all seats seats' streams streams' seat s turn e f told is more =
    let now : turns ++ map Some (held_with (seat ∷ seats') (s ∷ streams')) ≡ all =
    subst (λ (these : List _). turns ++ map Some (held_with (seat ∷ seats') these) ≡ all) f
    (subst (λ (these : List StreamSeatValue). turns ++ map Some (held_with these streams) ≡ all) e told) in
    ap (λ (ts : List (Option HeldValue)). ts ++ map Some (held_with seats' streams'))
    (more ∙ ap (λ (t : Option HeldValue). turns ++ t ∷ []) is)
    ∙ append_assoc turns (Some (held_at seat s) ∷ []) (map Some (held_with seats' streams')) ∙ now

pub ready_more : (seats seats' : List StreamSeatValue) (streams streams' : List StreamValue)
    (seat : StreamSeatValue) (s : StreamValue) → seats ≡ seat ∷ seats' → streams ≡ s ∷ streams'
    → AllByRecursion IsReady (held_with seats streams)
    → AllByRecursion IsReady (held_with seats' streams')
ready_more seats seats' streams streams' seat s e f ready =
    (subst (λ (these : List _). AllByRecursion IsReady (held_with (seat ∷ seats') these)) f
    (subst (λ (these : List StreamSeatValue). AllByRecursion IsReady (held_with these streams)) e ready)).1

pub one_empty : {S T : Type 0} {P : S → Type 0} {Q : T → Type 0} (m n a b : ℕ) → a ≡ m → b ≡ n
    → ((u : S) × ((m ≡ 0) × P u)) ⊎ ((u : T) × ((n ≡ 0) × Q u)) → (a ≡ 0) ⊎ (b ≡ 0)
one_empty m n a b e f (inl p) = inl (e ∙ p.1.0)
one_empty m n a b e f (inr p) = inr (f ∙ p.1.0)

pub map_more : {A B : Type 0} (f : A → B) (xs : List A) (x : A) → map f (xs ++ x ∷ []) ≡ map f xs ++ f x ∷ []
map_more f [] x = refl
map_more f (y ∷ xs) x = ap (λ ys. f y ∷ ys) (map_more f xs x)

-- all turns are parted but these, into the seats and the streams
abbrev pub Parted : (all items : List (Option HeldValue))
    (seats : List StreamSeatValue) (streams : List StreamValue) → Type 0
Parted all items seats streams = (helds : List HeldValue) → all ≡ map Some helds
    → (rest : List HeldValue) × (items ≡ map Some rest)
    × (seats ++ map (λ held. held.seat) rest ≡ map (λ held. held.seat) helds)
    × (streams ++ map (λ held. held.stream) rest ≡ map (λ held. held.stream) helds)

pub parted_none : (all items : List (Option HeldValue))
    (seats : List StreamSeatValue) (streams : List StreamValue) → seats ≡ [] → streams ≡ [] → items ≡ all
    → Parted all items seats streams
parted_none all items seats streams e f i helds p = (
  helds,
  i ∙ p,
  ap (λ (z : List StreamSeatValue). z ++ map (λ (held : HeldValue). held.seat) helds) e,
  ap (λ (z : List _). z ++ map (λ (held : HeldValue). held.stream) helds) f,
)

pub parted_more : (all items later : List (Option HeldValue)) (turn : Option HeldValue)
    (seats seats' : List StreamSeatValue) (streams streams' : List StreamValue) (held : HeldValue) (seat : StreamSeatValue) (s : StreamValue)
    → Parted all items seats streams → items ≡ turn ∷ later → turn ≡ Some held
    → seat ≡ held.seat → seats' ≡ seats ++ seat ∷ [] → streams' ≡ streams ++ s ∷ [] → s ≡ held.stream
    → Parted all later seats' streams'
parted_more all items later turn seats seats' streams streams' held seat s parted i e own q r o helds p =
    let was = parted helds p in
    let first = first_held turn later was.0 (sym i ∙ was.1) in
    let seat_in : HeldValue → StreamSeatValue = λ l. l.seat in
    let stream_in : HeldValue → StreamValue = λ l. l.stream in
    let same : first.0 ≡ held = ap (λ (z : Option HeldValue). unwrap_or z held) (sym first.3 ∙ e) in (
      first.1,
      first.4,
      ap (λ z. z ++ map seat_in first.1) q ∙ append_assoc seats (seat ∷ []) (map seat_in first.1)
          ∙ ap (λ z. seats ++ z ∷ map seat_in first.1) (own ∙ ap seat_in (sym same))
          ∙ ap (λ (z : List HeldValue). seats ++ map seat_in z) (sym first.2) ∙ was.2,
      ap (λ z. z ++ map stream_in first.1) r ∙ append_assoc streams (s ∷ []) (map stream_in first.1)
          ∙ ap (λ (z : StreamValue). streams ++ z ∷ map stream_in first.1) (o ∙ ap stream_in (sym same))
          ∙ ap (λ (z : List HeldValue). streams ++ map stream_in z) (sym first.2) ∙ was.3,
    )

no_rest : (items : List (Option HeldValue)) (rest : List HeldValue) → length items ≡ 0 → items ≡ map Some rest → rest ≡ []
no_rest items [] len e = refl
no_rest items (held ∷ rest) len e = absurd (omega (arith, len, ap length e))

pub parted_all : (all items : List (Option HeldValue))
    (seats : List StreamSeatValue) (streams : List StreamValue) → Parted all items seats streams → length items ≡ 0
    → (helds : List HeldValue) → all ≡ map Some helds
    → (seats ≡ map (λ held. held.seat) helds) × (streams ≡ map (λ held. held.stream) helds)
parted_all all items seats streams parted len helds p =
    let was = parted helds p in
    let none = no_rest items was.0 len was.1 in (
      sym (append-nil seats) ∙ ap (λ (z : List HeldValue). seats ++ map (λ held. held.seat) z) (sym none) ∙ was.2,
      sym (append-nil streams)
          ∙ ap (λ (z : List HeldValue). streams ++ map (λ held. held.stream) z) (sym none) ∙ was.3,
    )

-- a turn that has a stream isn't empty
pub has_held : (turn : Option HeldValue) (held : HeldValue) → turn ≡ Some held → turn ≡ None → ⊥
has_held turn held e none = subst (λ (o : Option HeldValue). MatchOption o ⊥ (λ _. ⊤)) (sym e ∙ none) tt

-- faults that aren't a wrong limit

pub no_memory : (e : SessionFault) → e ≡ NoMemory → e ≢ BadLimit
no_memory e p is = let both : NoMemory ≡ BadLimit = sym p ∙ is in absurd (cc)

pub mismatch : (e : SessionFault) → e ≡ Mismatch → e ≢ BadLimit
mismatch e p is = let both : Mismatch ≡ BadLimit = sym p ∙ is in absurd (cc)

pub all_unended : {T E : Type 0} (P Q : E → Type 0) (r : Result T E) → ((e : E) → P e → Q e) → IfErr r P → IfErr r Q
all_unended P Q (Ok t) on p = tt
all_unended P Q (Err e) on p = on e p

pub all_oks : {T E : Type 0} (P Q : T → Type 0) (r : Result T E) → ((t : T) → P t → Q t) → IfOk r P → IfOk r Q
all_oks P Q (Ok t) on p = on t p
all_oks P Q (Err e) on p = tt

-- the fault of an epoch that came to no end
module _ {R W : Type 0} (helds : List HeldValue) where
  pub unended_limit : (is_first : Bool) (e : Unended R W) → IsUnended is_first helds e → fault_of e ≢ BadLimit
  unended_limit is_first (unended.Unopened fault inputs) p = absurd p
  unended_limit is_first (unended.Unbegun back) p = no_memory NoMemory refl
  unended_limit is_first unended.Mismatch p = mismatch Mismatch refl

  pub later_mismatch : (e : Unended R W) → IsUnended false helds e → fault_of e ≡ Mismatch
  later_mismatch (unended.Unopened fault inputs) p = absurd p
  later_mismatch (unended.Unbegun back) p = let no : false ≡ true = p.0 in absurd (cc)
  later_mismatch unended.Mismatch p = refl

  pub still_unread : (contents : W → Option (List ℕ)) (failures : W → ℕ) (inputs : List (ReaderState × W)) (e : Unended R W)
      → map (λ held. held.stream) helds ≡ map (unread contents failures) inputs → IsUnended true helds e
      → GivesBack contents failures inputs e
  still_unread contents failures inputs (unended.Unopened fault back) same p = absurd p
  still_unread contents failures inputs (unended.Unbegun back) same p = p.1 ∙ same
  still_unread contents failures inputs unended.Mismatch same p = tt

pub fault_stays : {T : Type 0} (r : Result T SessionFault) (e : SessionFault) → IsErrAnd r (λ told. told ≡ e) → e ≢ BadLimit
    → IfErr r (λ told. told ≢ BadLimit)
fault_stays (Ok t) e p other = absurd p
fault_stays (Err told) e p other = λ is. other (sym p ∙ is)

pub never_bad_limit : {T : Type 0} (r : Result T SessionFault) → IfErr r (λ e. e ≢ BadLimit) → r ≡ Err BadLimit → ⊥
never_bad_limit (Ok t) p is = absurd (cc)
never_bad_limit (Err e) p is = let same : e ≡ BadLimit = cc in p same

pub no_bad_limit : {T : Type 0} (r : Result T SessionFault) (e : SessionFault) → IsErrAnd r (λ told. told ≡ e) → e ≢ BadLimit
    → r ≡ Err BadLimit → ⊥
no_bad_limit r e p other is = never_bad_limit r (fault_stays r e p other) is

-- what the streams leave, where no epoch comes any more
pub all_over : (waits : Bool) (journal : List Entry) (starts : List ClientStart) (helds : List HeldValue) (streams : List StreamValue)
    (served : List ServedValue) → (IsFalse waits → AreAllOver streams) → AllStand journal starts helds
    → streams ≡ map (λ held. held.stream) helds → AreOver streams served
    → (lefts : List ClientLeft) × (map (λ l. l.seat) lefts ≡ map (λ held. held.seat) helds)
    × (outcomes_of served ≡ map (λ l. l.outcome) lefts) × AllLeave waits journal starts lefts
all_over waits journal [] [] [] [] over p e q = ([], refl, refl, tt)
all_over waits journal [] [] [] (s ∷ served) over p e q = absurd q
all_over waits journal [] [] (stream ∷ streams) served over p e q = absurd (omega (arith, ap length e))
all_over waits journal [] (held ∷ helds) streams served over p e q = absurd p
all_over waits journal (start ∷ starts) [] streams served over p e q = absurd p
all_over waits journal (start ∷ starts) (held ∷ helds) [] served over p e q = absurd (omega (arith, ap length e))
all_over waits journal (start ∷ starts) (held ∷ helds) (stream ∷ streams) [] over p e q = absurd q
all_over waits journal (start ∷ starts) (held ∷ helds) (stream ∷ streams) (s ∷ served) over p e q =
    let here : stream ≡ held.stream = ap (λ vs. get_or vs 0 held.stream) e in
    let rest = all_over waits journal starts helds streams served (λ none k d less. over none (suc k) d (omega (arith, less)))
    p.1 (ap (λ vs. drop 1 vs) e) q.1 in
    let stand : Stands start p.0.0 (held_at held.seat stream) =
    subst (λ (v : StreamValue). Stands start p.0.0 (held_at held.seat v)) (sym here) p.0.1 in
    let own = λ (none : IsFalse waits). q.0.own (over none 0 stream (omega arith)) start p.0.0 held.seat stand in (
      record { seat = held.seat; outcome = s.outcome } ∷ rest.0,
      ap (λ seats. held.seat ∷ seats) rest.1,
      ap (λ outcomes. s.outcome ∷ outcomes) rest.2,
      ((p.0.0, q.0.ends start p.0.0 held.seat stand, p.0.2, own), rest.3),
    )

pub over_length : (streams : List StreamValue) (served : List ServedValue) → AreOver streams served → length served ≡ length streams
over_length [] [] q = refl
over_length [] (s ∷ served) q = absurd q
over_length (stream ∷ streams) [] q = absurd q
over_length (stream ∷ streams) (s ∷ served) q = ap suc (over_length streams served q.1)

-- the first of all are told, and these are left
pub record Told {A B : Type 0} (All : List A → List B → Type 0) (all items : List A) (told : List B) : Type 0 where
  pub done : List A
  pub parts : done ++ items ≡ all
  pub each : All done told

pub none_told : {A B : Type 0} (All : List A → List B → Type 0) (all items : List A) (told : List B) → All [] [] → told ≡ [] → items ≡ all
    → Told All all items told
none_told All all items told none empty same = record { done = []; parts = same; each = subst (All []) (sym empty) none }

pub all_told : {A B : Type 0} (All : List A → List B → Type 0) (all items : List A) (told : List B) → Told All all items told
    → length items ≡ 0
    → All all told
all_told All all [] told t e = subst (λ done. All done told) (sym (append-nil t.done) ∙ t.parts) t.each
all_told All all (x ∷ items) told t e = absurd (omega (arith, e))

over_more : (streams : List StreamValue) (served : List ServedValue) (stream : StreamValue) (s : ServedValue)
    → AreOver streams served → AreOver (stream ∷ []) (s ∷ []) → AreOver (streams ++ stream ∷ []) (served ++ s ∷ [])
over_more [] [] stream s p q = q
over_more [] (t ∷ served) stream s p q = absurd p
over_more (x ∷ streams) [] stream s p q = absurd p
over_more (x ∷ streams) (t ∷ served) stream s p q = (p.0, over_more streams served stream s p.1 q)

pub told_one : (all items later : List StreamValue) (served served' : List ServedValue) (stream : StreamValue) (s : ServedValue)
    → Told AreOver all items served → items ≡ stream ∷ later → served' ≡ served ++ s ∷ [] → AreOver (stream ∷ []) (s ∷ [])
    → Told AreOver all later served'
told_one all items later served served' stream s t i more one = record {
  done = t.done ++ stream ∷ [];
  parts = append_assoc t.done (stream ∷ []) later ∙ ap (λ l. t.done ++ l) (sym i) ∙ t.parts;
  each = subst (AreOver (t.done ++ stream ∷ [])) (sym more) (over_more t.done served stream s t.each one);
}

-- one more was made
pub made_more : {A B : Type 0} (h : B → A) (xs xs' : List A) (x : A) (ys ys' : List B) (y : B) (all : List A)
    → xs ++ map h ys ≡ all → ys ≡ y ∷ ys' → xs' ≡ xs ++ x ∷ [] → x ≡ h y → xs' ++ map h ys' ≡ all
made_more h xs xs' x ys ys' y all told i more same =
    ap (λ z. z ++ map h ys') more ∙ append_assoc xs (x ∷ []) (map h ys') ∙ ap (λ z. xs ++ z ∷ map h ys') same
    ∙ ap (λ z. xs ++ map h z) (sym i) ∙ told

-- where nothing is left, all were made
pub all_made : {A B : Type 0} (h : B → A) (xs all : List A) (items : List B) → length items ≡ 0 → xs ++ map h items ≡ all → xs ≡ all
all_made h xs all [] e p = sym (append-nil xs) ∙ p
all_made h xs all (y ∷ items) e p = absurd (omega (arith, e))
