-- The streams of a session where the released ones are taken out.
use Rattle.std.specs.Prelude.{All, Bool, IsSomeAnd, IsTrue, drop, filter, is_some, slice_get, slice_set, take}
use Rattle.std.specs.Option.{option_map}
use Rattle.std.proofs.Common.{◌≡◌, ◌⊎◌, ℕ, zero, suc, ◌+◌, ◌<◌, ◌≤◌, List, [], ◌∷◌, ◌++◌, length, map, Option, Some, None}
use Rattle.std.proofs.Common.{append-nil, append_assoc, get_or, inl, inr}
use Rattle.std.proofs.Common.{true, false, if◌then◌else◌, refl, sym, ap, ◌∙◌, subst, arith}
use Rattle.std.proofs.lemmas.List.{drop_all}
use Rattle.serve_core.specs.Retired.{new_number, retired_schedule, staying, stays}
use Rattle.serve_core.specs.Schedule.{HasStream, ScheduleValue}
use Rattle.serve_core.specs.Setup.{StreamSpec}
use Rattle.serve_core.specs.Streams.{KeptStream}
use Rattle.serve_core.proofs.Schedules.Retiring.{number_is}
use Rattle.serve_hub.specs.Ends.{AreStreamsOf, EndedValue, IsCharged, IsStreamOf}
use Rattle.serve_hub.specs.Retired.{renumbered, rests_kept, retired_end}
use Rattle.serve_hub.specs.Seats.{StreamRest, StreamSeatValue, left_by}
use Rattle.serve_client.specs.Streams.{StreamValue}
use Rattle.serve_work.specs.declared.live.guests.Guest.{Guest}
use Rattle.serve_work.specs.History.{EpochValue, IsLeftBy, Terms}
use Rattle.serve_work.specs.Live.{IsBehind, Waiting, numbered, start_with}
use Rattle.serve_work.specs.LiveInside.{AllAt, AreGuests, AreToldBut, IsGuestAt, Stood, at_marks, with_ticket}
use Rattle.serve_work.specs.LiveInside.{with_ticket_of, with_tickets}
use Rattle.serve_work.proofs.Renumbered.{once_more, retired_twice, stands_numbered}

-- one stream that stays
kept_on : (terms : Terms) (spec : StreamSpec) (es : List EpochValue) (number : ℕ) (before : List ℕ) (desk : ScheduleValue) (now : ℕ)
    → IsBehind terms spec (number ∷ before) es desk now → IsTrue (stays desk now)
    → IsBehind terms spec (number ∷ before) es (retired_schedule desk) (new_number desk now)
kept_on terms spec [] number before desk now behind e = absurd behind
kept_on terms spec (epoch ∷ es) number before desk now behind e =
    (behind.0, once_more epoch.gone number desk now behind.1 e)

-- and a schedule without the released streams
left_on : (es : List EpochValue) (desk : ScheduleValue) → IsLeftBy es desk → IsLeftBy es (retired_schedule desk)
left_on [] desk left = absurd left
left_on (epoch ∷ es) desk (on, inl e) = (on, inr (ap retired_schedule e))
left_on (epoch ∷ es) desk (on, inr e) = (on, inr (ap retired_schedule e ∙ retired_twice epoch.gone))

retired_one : (terms : Terms) (times : ℕ → Type 0) (es : List EpochValue) (desk : ScheduleValue) (w : Waiting)
    (stream : StreamValue) (seat : StreamSeatValue) → Stood terms times es desk w stream seat
    → IsTrue (stays desk seat.number) → Stood terms times es (retired_schedule desk) w stream (numbered (new_number desk seat.number) seat)
retired_one terms times es desk w stream seat s e =
    let n = new_number desk seat.number in
    record {
      is_request = s.is_request;
      first = numbered n s.first;
      is_new = record {
        told = s.is_new.told;
        accepted = s.is_new.accepted;
        kept = s.is_new.kept;
        is_open = s.is_new.is_open;
        before = s.is_new.before;
        torn = s.is_new.torn;
      };
      past = s.past;
      number = s.number;
      before = s.before;
      had = s.had;
      behind = kept_on terms w.request.spec es s.number s.before desk seat.number s.behind e;
      stands = stands_numbered n (start_with w.request s.first) s.past seat stream s.stands;
      calls = s.calls;
      left = s.left;
      stop = s.stop;
    }

pub some_and : {A : Type 0} (P Q : A → Type 0) (o : Option A) → ((x : A) → P x → Q x) → IsSomeAnd o P → IsSomeAnd o Q
some_and P Q None f p = absurd p
some_and P Q (Some x) f p = f x p

retired_seat : (desk : ScheduleValue) (seat : StreamSeatValue) → HasStream desk seat.number (IsStreamOf seat)
    → IsTrue (stays desk seat.number)
    → let n = new_number desk seat.number in HasStream (retired_schedule desk) n (IsStreamOf (numbered n seat))
retired_seat desk seat has e =
    let n = new_number desk seat.number in
    some_and (IsStreamOf seat) (IsStreamOf (numbered n seat)) (slice_get (staying desk) n)
    (λ x is. record { spec = is.spec; accepted = is.accepted; collected = is.collected })
    (subst (λ (o : Option KeptStream). IsSomeAnd o (IsStreamOf seat)) (sym (number_is desk seat.number e)) has)

-- lists of what stays

abbrev pub seats_kept : ScheduleValue → List StreamSeatValue → List StreamSeatValue
seats_kept desk [] = []
seats_kept desk (seat ∷ seats) =
    if stays desk seat.number then numbered (new_number desk seat.number) seat ∷ seats_kept desk seats
    else seats_kept desk seats

all_from : {A : Type 0} (P : A → Type 0) (x : A) (xs : List A) → All P (x ∷ xs) → P x × All P xs
all_from P x xs all = (all 0 x (omega arith), λ k d less. all (suc k) d (omega (arith, less)))

all_with : {A : Type 0} (P : A → Type 0) (x : A) (xs : List A) → P x → All P xs → All P (x ∷ xs)
all_with P x xs p all zero d less = p
all_with P x xs p all (suc k) d less = all k d (omega (arith, less))

all_picked : {A : Type 0} (P : A → Type 0) (b : Bool) (x : A) (xs : List A) → (b ≡ true → P x) → All P xs
    → All P (if b then x ∷ xs else xs)
all_picked P true x xs p all = all_with P x xs (p refl) all
all_picked P false x xs p all = all

few_picked : {A : Type 0} (b : Bool) (x : A) (xs : List A) (n : ℕ) → length xs ≤ n → length (if b then x ∷ xs else xs) ≤ suc n
few_picked true x xs n few = omega (arith, few)
few_picked false x xs n few = omega (arith, few)

few_kept : (desk : ScheduleValue) (seats : List StreamSeatValue) → length (seats_kept desk seats) ≤ length seats
few_kept desk [] = omega arith
few_kept desk (seat ∷ seats) =
    few_picked (stays desk seat.number) (numbered (new_number desk seat.number) seat) (seats_kept desk seats) (length seats)
    (few_kept desk seats)

streams_kept : (desk : ScheduleValue) (seats : List StreamSeatValue) → AreStreamsOf desk seats
    → AreStreamsOf (retired_schedule desk) (seats_kept desk seats)
streams_kept desk [] all = λ k d less. absurd (omega (arith, less))
streams_kept desk (seat ∷ seats) all =
    let is = all_from (λ (s : StreamSeatValue). HasStream desk s.number (IsStreamOf s)) seat seats all in
    all_picked (λ (s : StreamSeatValue). HasStream (retired_schedule desk) s.number (IsStreamOf s)) (stays desk seat.number)
    (numbered (new_number desk seat.number) seat) (seats_kept desk seats) (λ e. retired_seat desk seat is.0 e)
    (streams_kept desk seats is.1)

all_filtered : {A : Type 0} (P : A → Type 0) (test : A → Bool) (xs : List A) → All P xs → All P (filter test xs)
all_filtered P test [] all = all
all_filtered P test (x ∷ xs) all =
    let is = all_from P x xs all in
    all_picked P (test x) x (filter test xs) (λ e. is.0) (all_filtered P test xs is.1)

rests_picked : (desk : ScheduleValue) (b : Bool) (seat : StreamSeatValue) (rests : List StreamRest) (seats : List StreamSeatValue)
    → map (renumbered desk) rests ≡ map left_by seats
    → map (renumbered desk) (if b then left_by seat ∷ rests else rests)
    ≡ map left_by (if b then numbered (new_number desk seat.number) seat ∷ seats else seats)
rests_picked desk true seat rests seats e =
    ap (λ (these : List StreamRest). left_by (numbered (new_number desk seat.number) seat) ∷ these) e
rests_picked desk false seat rests seats e = e

pub rests_are : (desk : ScheduleValue) (seats : List StreamSeatValue)
    → rests_kept desk (map left_by seats) ≡ map left_by (seats_kept desk seats)
rests_are desk [] = refl
rests_are desk (seat ∷ seats) =
    rests_picked desk (stays desk seat.number) seat (filter (λ rest. stays desk rest.number) (map left_by seats))
    (seats_kept desk seats) (rests_are desk seats)

module _ {A B C : Type 0} (P : A → B → C → Type 0) where
  none_picked : (b : Bool) (y : B) (xs : List (Option A)) (ys : List B) (ws : List C) → AllAt P xs ys ws
      → AllAt P (if b then None ∷ xs else xs) (if b then y ∷ ys else ys) ws
  none_picked true y xs ys ws all = all
  none_picked false y xs ys ws all = all

  some_picked : (b : Bool) (x : A) (y : B) (w : C) (xs : List (Option A)) (ys : List B) (ws : List C) → (b ≡ false → ⊥)
      → (b ≡ true → P x y w) → AllAt P xs ys ws → AllAt P (if b then Some x ∷ xs else xs) (if b then y ∷ ys else ys) (w ∷ ws)
  some_picked true x y w xs ys ws stays p all = (p refl, all)
  some_picked false x y w xs ys ws stays p all = absurd (stays refl)

-- no more marks are asked than there are items
pub told_first : {A B : Type 0} (f : B → Bool) (ys : List B) (xs : List (Option A))
    → AreToldBut (map f (take (length xs) ys)) xs → AreToldBut (map f ys) xs
told_first f ys [] told k x m e = absurd (cc)
told_first f [] (x ∷ xs) told k z m e = absurd (cc)
told_first f (y ∷ ys) (x ∷ xs) told zero z m e = told zero z m e
told_first f (y ∷ ys) (x ∷ xs) told (suc k) z m e = told_first f ys xs (λ j. told (suc j)) k z m e

pub none_of : {A : Type 0} (o : Option A) → is_some o ≡ false → o ≡ None
none_of None e = refl
none_of (Some x) e = absurd (cc)

pub is_within : {A : Type 0} (xs : List A) (k : ℕ) (x : A) → slice_get xs k ≡ Some x → k < length xs
is_within [] k x e = absurd (cc)
is_within (y ∷ xs) zero x e = omega arith
is_within (y ∷ xs) (suc k) x e = omega (arith, is_within xs k x e)

-- one place more, at which none is left, or which is marked
pub told_more : {A : Type 0} (marks : List Bool) (items : List (Option A)) (n : ℕ) (item : Option A)
    → ((k : ℕ) (x : Option A) → k < n → slice_get marks k ≡ Some false → slice_get items k ≡ Some x → x ≡ None)
    → (get_or marks n false ≡ false → item ≡ None) → item ≡ get_or items n item
    → (k : ℕ) (x : Option A) → k < n + 1 → slice_get marks k ≡ Some false → slice_get items k ≡ Some x → x ≡ None
told_more [] items n item before now is k x less m e = absurd (cc)
told_more (mark ∷ marks) [] n item before now is k x less m e = absurd (cc)
told_more (mark ∷ marks) (y ∷ items) zero item before now is zero x less m e =
    let same : y ≡ x = cc in
    let unmarked : mark ≡ false = cc in sym same ∙ sym is ∙ now unmarked
told_more (mark ∷ marks) (y ∷ items) zero item before now is (suc k) x less m e = absurd (omega (arith, less))
told_more (mark ∷ marks) (y ∷ items) (suc n) item before now is zero x less m e = before 0 x (omega arith) m e
told_more (mark ∷ marks) (y ∷ items) (suc n) item before now is (suc k) x less m e =
    told_more marks items n item (λ j z l. before (suc j) z (omega (arith, l))) now is k x (omega (arith, less)) m e

some_is_there : {A : Type 0} (x : A) → Some x ≡ None → ⊥
some_is_there x e = cc

abbrev marks_at : ScheduleValue → List StreamSeatValue → List Bool
marks_at desk seats = map (λ rest. stays desk rest.number) (map left_by seats)

module _ {R W : Type 0} (terms : Terms) (times : ℕ → Type 0) (es : List EpochValue) (desk : ScheduleValue) where
  guests_kept : (guests : List (Option (Guest R W))) (seats : List StreamSeatValue) (ws : List Waiting)
      → AllAt (IsGuestAt terms times es desk) guests seats ws → AreToldBut (marks_at desk seats) guests
      → AllAt (IsGuestAt terms times es (retired_schedule desk)) (at_marks (marks_at desk seats) guests) (seats_kept desk seats) ws
  guests_kept [] seats [] p told = tt
  guests_kept [] seats (w ∷ ws) p told = absurd p
  guests_kept (guest ∷ guests) [] ws p told = absurd p
  guests_kept (None ∷ guests) (seat ∷ seats) ws p told =
      none_picked (IsGuestAt terms times es (retired_schedule desk)) (stays desk seat.number)
      (numbered (new_number desk seat.number) seat) (at_marks (marks_at desk seats) guests) (seats_kept desk seats) ws
      (guests_kept guests seats ws p (λ k. told (suc k)))
  guests_kept (Some guest ∷ guests) (seat ∷ seats) [] p told = absurd p
  guests_kept (Some guest ∷ guests) (seat ∷ seats) (w ∷ ws) p told =
      some_picked (IsGuestAt terms times es (retired_schedule desk)) (stays desk seat.number) guest
      (numbered (new_number desk seat.number) seat) w (at_marks (marks_at desk seats) guests) (seats_kept desk seats) ws
      (λ e. some_is_there guest (told 0 (Some guest) (ap Some e) refl))
      (λ e. (
        p.0.0,
        retired_one terms times es desk w guest.stream seat p.0.1 e,
      ))
      (guests_kept guests seats ws p.1 (λ k. told (suc k)))

-- the streams between two epochs, without those that are released, each of which was told
module _ {R W : Type 0} (terms : Terms) (times : ℕ → Type 0) (es : List EpochValue) (ended : EndedValue) (ws : List Waiting) where
  pub guests_retired : (guests : List (Option (Guest R W)))
      → AreGuests terms times es ended ws guests
      → AreToldBut (map (λ rest. stays ended.book.desk rest.number) ended.streams) guests
      → AreGuests terms times es (retired_end ended) ws
      (at_marks (map (λ rest. stays ended.book.desk rest.number) ended.streams) guests)
  guests_retired guests a told =
      let desk = ended.book.desk in
      let f = λ (rest : StreamRest). stays desk rest.number in
      record {
        history = a.history;
        left_here = left_on es desk a.left_here;
        seats = seats_kept desk a.seats;
        rests = ap (rests_kept desk) a.rests ∙ rests_are desk a.seats;
        few = omega (arith, a.few, few_kept desk a.seats);
        kept = streams_kept desk a.seats a.kept;
        charges = all_filtered IsCharged _ desk.streams a.charges;
        of_limit = a.of_limit;
        each = subst (λ (rests : List StreamRest). AllAt (IsGuestAt terms times es (retired_schedule desk))
            (at_marks (map f rests) guests)
            (seats_kept desk a.seats) ws) (sym a.rests)
            (guests_kept terms times es desk guests a.seats ws a.each
            (subst (λ (rests : List StreamRest). AreToldBut (map f rests) guests) a.rests told));
      }

-- lists that are made item by item

marked_split : {A : Type 0} (mark : Bool) (x : A) (marks : List Bool) (xs : List A)
    → at_marks (mark ∷ marks) (x ∷ xs) ≡ at_marks (mark ∷ []) (x ∷ []) ++ at_marks marks xs
marked_split true x marks xs = refl
marked_split false x marks xs = refl

pub marked_more : {A : Type 0} (made made' all : List A) (marks marks' : List Bool) (mark : Bool) (xs xs' : List A) (x : A)
    → marks ≡ mark ∷ marks' → xs ≡ x ∷ xs' → made ++ at_marks marks xs ≡ all → made' ≡ made ++ at_marks (mark ∷ []) (x ∷ [])
    → made' ++ at_marks marks' xs' ≡ all
marked_more {A} made made' all marks marks' mark xs xs' x e f told is =
    let now : made ++ at_marks (mark ∷ marks') (x ∷ xs') ≡ all =
    subst (λ (these : List A). made ++ at_marks (mark ∷ marks') these ≡ all) f
    (subst (λ (these : List Bool). made ++ at_marks these xs ≡ all) e told) in
    ap (λ (these : List A). these ++ at_marks marks' xs') is
    ∙ append_assoc made (at_marks (mark ∷ []) (x ∷ [])) (at_marks marks' xs')
    ∙ ap (λ (these : List A). made ++ these) (sym (marked_split mark x marks' xs')) ∙ now

none_marked : {A : Type 0} (marks : List Bool) (xs : List A) → (length marks ≡ 0) ⊎ (length xs ≡ 0) → at_marks marks xs ≡ []
none_marked marks [] p = refl
none_marked [] (x ∷ xs) p = refl
none_marked (mark ∷ marks) (x ∷ xs) (inl p) = absurd (omega (arith, p))
none_marked (mark ∷ marks) (x ∷ xs) (inr p) = absurd (omega (arith, p))

pub marked_made : {A : Type 0} (made all : List A) (marks : List Bool) (xs : List A) → (length marks ≡ 0) ⊎ (length xs ≡ 0)
    → made ++ at_marks marks xs ≡ all → made ≡ all
marked_made {A} made all marks xs p e =
    sym (append-nil made) ∙ ap (λ (these : List A). made ++ these) (sym (none_marked marks xs p)) ∙ e

-- no more marks are looked at than there are items
pub marked_first : {A B : Type 0} (f : B → Bool) (ys : List B) (xs : List A)
    → at_marks (map f (take (length xs) ys)) xs ≡ at_marks (map f ys) xs
marked_first f ys [] = refl
marked_first f [] (x ∷ xs) = refl
marked_first {A} f (y ∷ ys) (x ∷ xs) = ap (λ (rest : List A). if f y then x ∷ rest else rest) (marked_first f ys xs)

-- one mark more
pub marks_more : {B : Type 0} (f : B → Bool) (ys : List B) (k : ℕ) (y : B) → slice_get ys k ≡ Some y
    → map f (take (suc k) ys) ≡ map f (take k ys) ++ f y ∷ []
marks_more f [] k y e = absurd (cc)
marks_more f (z ∷ ys) zero y e = let same : z ≡ y = cc in ap (λ x. f x ∷ []) same
marks_more f (z ∷ ys) (suc k) y e = ap (λ marks. f z ∷ marks) (marks_more f ys k y e)

mark_at : (desk : ScheduleValue) (rests : List StreamRest) (place number : ℕ) (mark : Bool) (o : Option StreamRest)
    → slice_get rests place ≡ o → Some number ≡ option_map (λ (rest : StreamRest). rest.number) o → mark ≡ stays desk number
    → map (λ (rest : StreamRest). stays desk rest.number) (take (suc place) rests)
    ≡ map (λ (rest : StreamRest). stays desk rest.number) (take place rests) ++ mark ∷ []
mark_at desk rests place number mark None e n m = absurd (cc)
mark_at desk rests place number mark (Some rest) e n m =
    let f = λ (rest : StreamRest). stays desk rest.number in
    let same : rest.number ≡ number = cc in
    marks_more f rests place rest e
    ∙ ap (λ (b : Bool). map f (take place rests) ++ b ∷ []) (ap (stays desk) same ∙ sym m)

-- whether the stream stays whose seat was handed over at the next place
pub mark_more : (desk : ScheduleValue) (rests : List StreamRest) (place number : ℕ) (mark : Bool) (made made' : List Bool)
    → Some number ≡ option_map (λ (rest : StreamRest). rest.number) (slice_get rests place) → mark ≡ stays desk number
    → made ≡ map (λ (rest : StreamRest). stays desk rest.number) (take place rests) → made' ≡ made ++ mark ∷ []
    → made' ≡ map (λ (rest : StreamRest). stays desk rest.number) (take (place + 1) rests)
mark_more desk rests place number mark made made' n m e more =
    let f = λ (rest : StreamRest). stays desk rest.number in
    let next : suc place ≡ place + 1 = omega arith in
    more ∙ ap (λ (bs : List Bool). bs ++ mark ∷ []) e
    ∙ sym (mark_at desk rests place number mark (slice_get rests place) refl n m)
    ∙ ap (λ (k : ℕ). map f (take k rests)) next

-- tickets that are put to their numbers one by one

no_guests : (R W : Type 0) (rests : List StreamRest) (tickets : List (Option ℕ))
    → with_tickets {R = R} {W = W} rests [] tickets ≡ tickets
no_guests R W [] tickets = refl
no_guests R W (rest ∷ rests) tickets = refl

module _ {R W : Type 0} where
  pub ticket_more : (rests : List StreamRest) (guests : List (Option (Guest R W))) (tickets tickets' all : List (Option ℕ)) (k : ℕ)
      (guest : Option (Guest R W)) → slice_get guests k ≡ Some guest → with_tickets (drop k rests) (drop k guests) tickets ≡ all
      → tickets' ≡ with_ticket_of (slice_get rests k) guest tickets
      → with_tickets (drop (suc k) rests) (drop (suc k) guests) tickets' ≡ all
  ticket_more rests [] tickets tickets' all k guest here e is = absurd (cc)
  ticket_more [] (g ∷ guests) tickets tickets' all zero guest here e is = is ∙ e
  ticket_more [] (g ∷ guests) tickets tickets' all (suc k) guest here e is = is ∙ e
  ticket_more (rest ∷ rests) (g ∷ guests) tickets tickets' all zero guest here e is =
      let same : g ≡ guest = cc in
      ap (λ (these : List (Option ℕ)). with_tickets rests guests these) is
      ∙ sym (ap (λ (x : Option (Guest R W)). with_tickets rests guests (with_ticket rest.number x tickets)) same) ∙ e
  ticket_more (rest ∷ rests) (g ∷ guests) tickets tickets' all (suc k) guest here e is =
      ticket_more rests guests tickets tickets' all k guest here e is

  pub tickets_made : (rests : List StreamRest) (guests : List (Option (Guest R W))) (tickets all : List (Option ℕ)) (k : ℕ)
      → length guests ≤ k → with_tickets (drop k rests) (drop k guests) tickets ≡ all → tickets ≡ all
  tickets_made rests guests tickets all k over e =
      sym (no_guests R W (drop k rests) tickets)
      ∙ ap (λ (gs : List (Option (Guest R W))). with_tickets (drop k rests) gs tickets) (sym (drop_all k guests over)) ∙ e

emptied_at : {A : Type 0} (items : List (Option A)) (n : ℕ)
    → ((k : ℕ) (item : Option A) → k < n → slice_get items k ≡ Some item → item ≡ None)
    → (k : ℕ) (item : Option A) → k < n + 1 → slice_get (slice_set items n None) k ≡ Some item → item ≡ None
emptied_at [] n before k item less e = absurd (cc)
emptied_at (x ∷ items) zero before zero item less e = cc
emptied_at (x ∷ items) zero before (suc k) item less e = absurd (omega (arith, less))
emptied_at (x ∷ items) (suc n) before zero item less e = before 0 item (omega arith) e
emptied_at (x ∷ items) (suc n) before (suc k) item less e =
    emptied_at items n (λ j y l. before (suc j) y (omega (arith, l))) k item (omega (arith, less)) e

-- one place more is empty, and none is left before it
pub emptied_more : {A : Type 0} (items items' : List (Option A)) (n : ℕ)
    → ((k : ℕ) (item : Option A) → k < n → slice_get items k ≡ Some item → item ≡ None) → items' ≡ slice_set items n None
    → (k : ℕ) (item : Option A) → k < n + 1 → slice_get items' k ≡ Some item → item ≡ None
emptied_more items items' n before is k item less e =
    emptied_at items n before k item less (subst (λ these. slice_get these k ≡ Some item) is e)

pub one_item : {A : Type 0} (xs : List A) (k : ℕ) (x y : A) → slice_get xs k ≡ Some x → slice_get xs k ≡ Some y → x ≡ y
one_item xs k x y e f = let same : Some x ≡ Some y = sym e ∙ f in cc

here_or : {A : Type 0} (xs : List A) (k : ℕ) (d : A) → k < length xs → slice_get xs k ≡ Some (get_or xs k d)
here_or [] k d less = absurd (omega (arith, less))
here_or (x ∷ xs) zero d less = refl
here_or (x ∷ xs) (suc k) d less = here_or xs k d (omega (arith, less))

pub all_emptied : {A : Type 0} (items : List (Option A)) (n : ℕ) → length items ≤ n
    → ((k : ℕ) (item : Option A) → k < n → slice_get items k ≡ Some item → item ≡ None) → All (λ item. item ≡ None) items
all_emptied items n over none k d less =
    none k (get_or items k d) (omega (arith, over, less)) (here_or items k d less)
