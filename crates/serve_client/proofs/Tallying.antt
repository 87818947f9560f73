-- How the calls of a seat add up.
use Rattle.std.proofs.Common.{◌≡◌, ◌≢◌, ℕ, ◌+◌, List, [], ◌∷◌, ◌++◌, length, filter, sum_by, Bool, refl, sym}
use Rattle.std.proofs.Common.{ap, ◌∙◌, append_assoc, append-nil, length-append, arith, subst, inl, inr, IfSome, Option}
use Rattle.std.proofs.Common.{Some, None, IsSome, ◌≤◌}
use Rattle.std.specs.List.{AllByRecursion}
use Rattle.std.proofs.lemmas.List.Elements.{filter-append}
use Rattle.std.proofs.lemmas.List.Sums.{sum_by-cons}
use Rattle.filters.specs.ChainImage.{FrameValue}
use Rattle.y4m_stream.specs.Writer.{WriterState}
use Rattle.serve_core.specs.declared.collected.Collected.{Collected}
use Rattle.serve_hub.specs.declared.entry.Act.{Act}
use Rattle.serve_hub.specs.declared.entry.Act.TheVariants as acts
use Rattle.serve_hub.specs.declared.moments.Moments.{Moments}
use Rattle.serve_hub.specs.Calls.{Accepts, Collects}
use Rattle.serve_hub.specs.Journal.{tick_of}
use Rattle.serve_hub.specs.Seats.{CallsValue, StreamSeatValue, collected_by, first_noted, moments_with, one_collection, spec_told, torn_at}
use Rattle.serve_client.specs.Clients.{AreAtMoments, HasOtherNumber, IsAtMoment, closes_in, collections_in, is_close, is_collection}
use Rattle.serve_client.specs.Clients.{is_offer, offers_in}
use Rattle.serve_client.specs.ClientInside.{GivesUp, IsCounted, KeepsMoments, OffersAt, ShowsClose, Tallies, TalliesSeat}

-- what holds of a number, if there is one
pub if_more : (P Q : ℕ → Type 0) (o : Option ℕ) → ((n : ℕ) → P n → Q n) → IfSome o P → IfSome o Q
if_more P Q None more p = tt
if_more P Q (Some n) more p = more n p

pub if_none : (P : ℕ → Type 0) (o : Option ℕ) → o ≡ None → IfSome o P
if_none P o none = subst (λ (x : Option ℕ). IfSome x P) (sym none) tt

-- of the number that was noted first, or is noted then
pub if_later : (P Q : ℕ → Type 0) (old new : Option ℕ) → ((n : ℕ) → Q n → P n) → ((n : ℕ) → old ≡ Some n → new ≡ Some n)
    → (old ≡ None → IfSome new Q) → IfSome old P → IfSome new P
if_later P Q None new more noted first p = if_more Q P new more (first refl)
if_later P Q (Some n) new more noted first p = subst (λ (x : Option ℕ). IfSome x P) (sym (noted n refl)) p

some_later : (old new : Option ℕ) → ((n : ℕ) → old ≡ Some n → new ≡ Some n) → IsSome old → IsSome new
some_later None new noted some = absurd (cc)
some_later (Some n) new noted some = subst IsSome (sym (noted n refl)) refl

some_noted : (o : Option ℕ) (n : ℕ) → IsSome (first_noted o n)
some_noted None n = refl
some_noted (Some first) n = refl

pub some_torn : (n : ℕ) (old new : StreamSeatValue) → new ≡ torn_at n old → IsSome new.torn
some_torn n old new is = subst (λ (s : StreamSeatValue). IsSome s.torn) (sym is) (some_noted old.torn n)

-- so many of the calls are such
such_among : (is : Act → Bool) (calls more : List Act)
    → length (filter is (calls ++ more)) ≡ length (filter is calls) + length (filter is more)
such_among is calls more = ap length (filter-append is calls more) ∙ length-append (filter is calls) (filter is more)

pub offers_both : (past calls : List Act) → offers_in (past ++ calls) ≡ offers_in past + offers_in calls
offers_both past calls = such_among is_offer past calls

pub collections_both : (past calls : List Act) → collections_in (past ++ calls) ≡ collections_in past + collections_in calls
collections_both past calls = such_among is_collection past calls

closes_both : (past calls : List Act) → closes_in (past ++ calls) ≡ closes_in past + closes_in calls
closes_both past calls = such_among is_close past calls

-- as seats count their collections
pub collections_counted : (calls : List Act) → collections_in calls ≡ sum_by one_collection calls
collections_counted [] = refl
collections_counted (acts.Offered tick number ∷ calls) = collections_counted calls
collections_counted (acts.Closed ∷ calls) = collections_counted calls
collections_counted (acts.Admitted ∷ calls) = collections_counted calls
collections_counted (acts.Leased stream number grant ∷ calls) = collections_counted calls
collections_counted (acts.Settled bands finished ∷ calls) = collections_counted calls
collections_counted (acts.Collected number ∷ calls) =
    omega (arith, collections_counted calls, sum_by-cons one_collection (acts.Collected number) calls)

pub Collects-up : (pair : Collected) (old new : StreamSeatValue) → Collects pair old new → GivesUp old new
Collects-up pair old new c =
    c.seat ∙ ap (λ (v : StreamSeatValue). record old { calls = v.calls; kept = new.kept; torn = v.torn }) (sym c.seat)

pub one_collected : (pair : Collected) (old new : StreamSeatValue) → Collects pair old new
    → collections_in new.calls.list ≡ collections_in old.calls.list + 1
one_collected pair old new c =
    ap (λ (v : StreamSeatValue). collections_in v.calls.list) c.seat ∙ collections_both old.calls.list (acts.Collected c.number ∷ [])

none_offered : (pair : Collected) (old new : StreamSeatValue) → Collects pair old new
    → offers_in new.calls.list ≡ offers_in old.calls.list + 0
none_offered pair old new c =
    ap (λ (v : StreamSeatValue). offers_in v.calls.list) c.seat ∙ offers_both old.calls.list (acts.Collected c.number ∷ [])

pub TalliesSeat-same : (old new : StreamSeatValue) → new.number ≡ old.number → spec_told new ≡ spec_told old → new.before ≡ old.before
    → new.calls ≡ old.calls → new.accepted ≡ old.accepted → new.moments ≡ old.moments → new.is_closed ≡ old.is_closed
    → new.torn ≡ old.torn → TalliesSeat old new
TalliesSeat-same old new number spec before calls accepted moments closed torn = record {
  number = number;
  spec = spec;
  before = before;
  added = [];
  calls = ap (λ (c : CallsValue). c.list) calls ∙ sym (append-nil old.calls.list);
  offers = omega (arith, ap (λ (c : CallsValue). offers_in c.list) calls, accepted);
  moments = λ none. moments;
  collections = omega (arith, ap (λ (c : CallsValue). collections_in c.list) calls);
  unclosed = λ is_open. (sym closed ∙ is_open, refl);
  noted = λ n is. torn ∙ is;
  torn = λ none. if_none (λ n. collected_by old ≤ n) new.torn (torn ∙ none);
}

pub seat_same : (old new : StreamSeatValue) → new ≡ old → TalliesSeat old new
seat_same old new same = TalliesSeat-same old new (ap (λ (v : StreamSeatValue). v.number) same)
    (ap spec_told same) (ap (λ (v : StreamSeatValue). v.before) same)
    (ap (λ (v : StreamSeatValue). v.calls) same) (ap (λ (v : StreamSeatValue). v.accepted) same)
    (ap (λ (v : StreamSeatValue). v.moments) same) (ap (λ (v : StreamSeatValue). v.is_closed) same)
    (ap (λ (v : StreamSeatValue). v.torn) same)

-- images that were collected stay so
pub collected_more : (old new : StreamSeatValue) → new.before ≡ old.before
    → collections_in old.calls.list ≤ collections_in new.calls.list → collected_by old ≤ collected_by new
collected_more old new before more = omega (
  arith,
  before,
  more,
  collections_counted old.calls.list,
  collections_counted new.calls.list,
)

pub TalliesSeat-trans : (a b c : StreamSeatValue) → TalliesSeat a b → TalliesSeat b c → TalliesSeat a c
TalliesSeat-trans a b c p q = record {
  number = q.number ∙ p.number;
  spec = q.spec ∙ p.spec;
  before = q.before ∙ p.before;
  added = p.added ++ q.added;
  calls = q.calls ∙ ap (λ l. l ++ q.added) p.calls ∙ append_assoc a.calls.list p.added q.added;
  offers = omega (arith, p.offers, q.offers);
  moments = λ none.
      let both = offers_both p.added q.added in q.moments (omega (arith, none, both)) ∙ p.moments (omega (arith, none, both));
  collections = omega (arith, p.collections, q.collections);
  unclosed = λ is_open.
      let later = q.unclosed is_open in
      let first = p.unclosed later.0 in
      (first.0, omega (arith, first.1, later.1, closes_both p.added q.added));
  noted = λ n is. q.noted n (p.noted n is);
  torn = λ none.
      let more = collected_more a b p.before p.collections in
      if_later (λ n. collected_by a ≤ n) (λ n. collected_by b ≤ n) b.torn c.torn (λ n few. omega (arith, few, more)) q.noted q.torn
      (p.torn none);
}

-- a seat that noted a Torn has noted one
pub torn_still : (old new : StreamSeatValue) → TalliesSeat old new → IsSome old.torn → IsSome new.torn
torn_still old new t some = some_later old.torn new.torn t.noted some

pub TalliesSeat-accept : (frame : FrameValue) (n : ℕ) (old new : StreamSeatValue) → Accepts frame n old new → TalliesSeat old new
TalliesSeat-accept frame n old new a = rw a.seat (record {
  number = refl;
  spec = refl;
  before = refl;
  added = acts.Offered a.tick n ∷ [];
  calls = refl;
  offers = omega (arith, offers_both old.calls.list (acts.Offered a.tick n ∷ []));
  moments = λ none. absurd (omega (arith, none));
  collections = omega (arith, collections_both old.calls.list (acts.Offered a.tick n ∷ []));
  unclosed = λ is_open. (is_open, refl);
  noted = λ n is. is;
  torn = λ none. if_none (λ n. collected_by old ≤ n) old.torn none;
})

pub TalliesSeat-collect : (pair : Collected) (old new : StreamSeatValue) → Collects pair old new → TalliesSeat old new
TalliesSeat-collect pair old new c = record {
  number = ap (λ (v : StreamSeatValue). v.number) c.seat;
  spec = ap spec_told c.seat;
  before = ap (λ (v : StreamSeatValue). v.before) c.seat;
  added = acts.Collected c.number ∷ [];
  calls = ap (λ (v : StreamSeatValue). v.calls.list) c.seat;
  offers = omega (arith, none_offered pair old new c, ap (λ (v : StreamSeatValue). v.accepted) c.seat);
  moments = λ none. ap (λ (v : StreamSeatValue). v.moments) c.seat;
  collections = omega (arith, one_collected pair old new c);
  unclosed = λ is_open. (sym (ap (λ (v : StreamSeatValue). v.is_closed) c.seat) ∙ is_open, refl);
  noted = λ n is. ap (λ (v : StreamSeatValue). v.torn) c.seat ∙ is;
  torn = λ none. if_none (λ n. collected_by old ≤ n) new.torn (ap (λ (v : StreamSeatValue). v.torn) c.seat ∙ none);
}

-- a seat is told Torn, behind some calls
pub TalliesSeat-torn : (n : ℕ) (old mid new : StreamSeatValue) → TalliesSeat old mid → mid.torn ≡ old.torn → collected_by old ≤ n
    → new ≡ torn_at n mid → TalliesSeat old new
TalliesSeat-torn n old mid new t same few is = rw is (record {
  number = t.number;
  spec = t.spec;
  before = t.before;
  added = t.added;
  calls = t.calls;
  offers = t.offers;
  moments = t.moments;
  collections = t.collections;
  unclosed = t.unclosed;
  noted = λ m was. ap (λ (o : Option ℕ). first_noted o n) (same ∙ was);
  torn = λ none. subst (λ (o : Option ℕ). IfSome (first_noted o n) (λ m. collected_by old ≤ m)) (sym (same ∙ none)) few;
})

-- the writer put no image
pub Tallies-seat : (old new : StreamSeatValue) (writer writer' : WriterState) → TalliesSeat old new → writer'.frames ≡ writer.frames
    → Tallies old new writer writer'
Tallies-seat old new writer writer' t same = record {
  seat = t;
  images = omega (arith, t.collections, same);
  torn = λ none.
      if_more (λ n. collected_by old ≤ n) (λ n. writer'.frames + collected_by old ≤ writer.frames + n) new.torn
      (λ n few. omega (arith, few, same)) (t.torn none);
}

pub Tallies-none : (seat : StreamSeatValue) (writer : WriterState) → Tallies seat seat writer writer
Tallies-none seat writer = Tallies-seat seat seat writer writer (seat_same seat seat refl) refl

-- behind calls that weren't told Torn
pub Tallies-trans : (a b c : StreamSeatValue) (writer between writer' : WriterState) → b.torn ≡ a.torn → Tallies a b writer between
    → Tallies b c between writer' → Tallies a c writer writer'
Tallies-trans a b c writer between writer' same p q = record {
  seat = TalliesSeat-trans a b c p.seat q.seat;
  images = omega (arith, p.images, q.images);
  torn = λ none.
      if_more (λ n. writer'.frames + collected_by b ≤ between.frames + n) (λ n. writer'.frames + collected_by a ≤ writer.frames + n)
      c.torn (λ n few. omega (
        arith,
        few,
        p.images,
        p.seat.before,
        collections_counted a.calls.list,
        collections_counted b.calls.list,
      )) (q.torn (same ∙ none));
}

-- and then the writer put no image
pub Tallies-still : (a b c : StreamSeatValue) (writer between : WriterState) → Tallies a b writer between → TalliesSeat b c
    → Tallies a c writer between
Tallies-still a b c writer between p t = record {
  seat = TalliesSeat-trans a b c p.seat t;
  images = omega (arith, p.images, t.collections);
  torn = λ none.
      if_later (λ n. between.frames + collected_by a ≤ writer.frames + n) (λ n. collected_by b ≤ n) b.torn c.torn
      (λ n few. omega (
        arith,
        few,
        p.images,
        p.seat.before,
        collections_counted a.calls.list,
        collections_counted b.calls.list,
      )) t.noted t.torn (p.torn none);
}

-- an image was collected, and put
pub Tallies-give : (old new : StreamSeatValue) (writer writer' : WriterState) (pair : Collected) → Collects pair old new
    → writer'.frames ≡ writer.frames + 1 → Tallies old new writer writer'
Tallies-give old new writer writer' pair c more = record {
  seat = TalliesSeat-collect pair old new c;
  images = omega (arith, one_collected pair old new c, more);
  torn = λ none.
      if_none (λ n. writer'.frames + collected_by old ≤ writer.frames + n) new.torn
      (ap (λ (v : StreamSeatValue). v.torn) c.seat ∙ none);
}

pub counted_later : (past : List Act) (old new : StreamSeatValue) → TalliesSeat old new → IsCounted past old → IsCounted past new
counted_later past old new t e =
    omega (arith, t.offers, e, offers_both past old.calls.list, offers_both past new.calls.list)

-- and a close shows
pub close_shown : (past : List Act) (old new : StreamSeatValue) → TalliesSeat old new → ShowsClose past old → ShowsClose past new
close_shown past old new t shown is_open =
    let last = t.unclosed is_open in
    omega (
      arith,
      last.1,
      shown last.0,
      ap closes_in t.calls,
      closes_both old.calls.list t.added,
      closes_both past old.calls.list,
      closes_both past new.calls.list,
    )

pub other_number : (past : List Act) (frame : FrameValue) (n : ℕ) (old new : StreamSeatValue) → IsCounted past old → n ≢ old.accepted
    → Accepts frame n old new → HasOtherNumber (past ++ new.calls.list)
other_number past frame n old new same other taken = record {
  before = past ++ old.calls.list;
  tick = taken.tick;
  number = n;
  later = [];
  other = λ is. other (is ∙ same);
  whole = ap (λ (v : StreamSeatValue). past ++ v.calls.list) taken.seat
      ∙ sym (append_assoc past old.calls.list (acts.Offered taken.tick n ∷ []));
}

-- moments

pub all_both : {A : Type 0} (P : A → Type 0) (xs ys : List A) → AllByRecursion P xs → AllByRecursion P ys → AllByRecursion P (xs ++ ys)
all_both P [] ys p q = q
all_both P (x ∷ xs) ys p q = (p.0, all_both P xs ys p.1 q)

pub no_offers : (Gives : ℕ → Type 0) (calls : List Act) → offers_in calls ≡ 0 → AreAtMoments Gives calls
no_offers Gives [] none = tt
no_offers Gives (acts.Offered tick number ∷ calls) none = absurd (omega (arith, none))
no_offers Gives (act ∷ calls) none = ((0, tt), no_offers Gives calls none)

pub KeepsMoments-same : (Gives : ℕ → Type 0) (old new : StreamSeatValue) → new ≡ old → KeepsMoments Gives old new
KeepsMoments-same Gives old new same = rw same (record { calls = λ m. m; first = λ m. m; latest = λ m. m })

pub KeepsMoments-trans : (Gives : ℕ → Type 0) (a b c : StreamSeatValue) → KeepsMoments Gives a b → KeepsMoments Gives b c
    → KeepsMoments Gives a c
KeepsMoments-trans Gives a b c p q = record {
  calls = λ m. q.calls (p.calls m);
  first = λ m. q.first (p.first m);
  latest = λ m. q.latest (p.latest m);
}

-- where no frame was accepted, none was offered
pub none_accepted : (Gives : ℕ → Type 0) (old new : StreamSeatValue) → TalliesSeat old new → new.accepted ≡ old.accepted
    → KeepsMoments Gives old new
none_accepted Gives old new t same =
    let none : offers_in t.added ≡ 0 = omega (
      arith,
      t.offers,
      same,
      ap offers_in t.calls,
      offers_both old.calls.list t.added,
    ) in
    record {
      calls = λ m.
          subst (AreAtMoments Gives) (sym t.calls)
          (all_both (λ act. (clock : ℕ) × IsAtMoment Gives clock act) old.calls.list t.added m (no_offers Gives t.added none));
      first = λ m. subst (λ (o : Option Moments). IfSome o (λ t. Gives t.first)) (sym (t.moments none)) m;
      latest = λ m. subst (λ (o : Option Moments). IfSome o (λ t. Gives t.latest)) (sym (t.moments none)) m;
    }

pub none_given : (Gives : ℕ → Type 0) (old new : StreamSeatValue) → TalliesSeat old new → GivesUp old new → KeepsMoments Gives old new
none_given Gives old new t up = none_accepted Gives old new t (ap (λ (v : StreamSeatValue). v.accepted) up)

first_with : (Gives : ℕ → Type 0) (moments : Option Moments) (at : ℕ) → IfSome moments (λ t. Gives t.first) → Gives at
    → Gives (moments_with moments at).first
first_with Gives None at given gives = gives
first_with Gives (Some before) at given gives = given

latest_with : (Gives : ℕ → Type 0) (moments : Option Moments) (at : ℕ) → Gives at → Gives (moments_with moments at).latest
latest_with Gives None at gives = gives
latest_with Gives (Some before) at gives = gives

pub offers_at : (Gives : ℕ → Type 0) (at : ℕ) (old new : StreamSeatValue) → Gives at → OffersAt at old new → KeepsMoments Gives old new
offers_at Gives at old new gives (inl same) = record {
  calls = λ m. subst (λ (k : CallsValue). AreAtMoments Gives k.list) (sym same.0) m;
  first = λ m. subst (λ (o : Option Moments). IfSome o (λ t. Gives t.first)) (sym same.1) m;
  latest = λ m. subst (λ (o : Option Moments). IfSome o (λ t. Gives t.latest)) (sym same.1) m;
}
offers_at Gives at old new gives (inr notes) = record {
  calls = λ m.
      subst (λ (k : CallsValue). AreAtMoments Gives k.list) (sym notes.1.calls)
      (all_both (λ act. (clock : ℕ) × IsAtMoment Gives clock act) old.calls.list
      (acts.Offered (tick_of notes.0 at) notes.1.number ∷ []) m ((notes.0, (at, gives, refl)), tt));
  first = λ m. subst (λ (o : Option Moments). IfSome o (λ t. Gives t.first)) (sym notes.1.moments)
      (first_with Gives old.moments at m gives);
  latest = λ m. subst (λ (o : Option Moments). IfSome o (λ t. Gives t.latest)) (sym notes.1.moments)
      (latest_with Gives old.moments at gives);
}
