-- How the streams of a session take their seats, one by one.
use Rattle.std.specs.Prelude.{All, IsSomeAnd, slice_get}
use Rattle.std.specs.List.{AllByRecursion}
use Rattle.std.proofs.lemmas.List.{map-append}
use Rattle.std.proofs.Common.{◌≡◌, ℕ, zero, suc, List, [], ◌∷◌, ◌++◌, length, map, Option, Some, None, inl, inr, ◌⊎◌}
use Rattle.std.proofs.Common.{append-nil, append_assoc, length-append, refl, sym, ap, ◌∙◌, subst, arith}
use Rattle.serve_core.specs.declared.setup.SetupError.{SetupError}
use Rattle.serve_core.specs.declared.setup.SetupError.TheVariants.{BadLimits, BadBandwidth, Overload}
use Rattle.serve_core.specs.Admitted.{IsFault}
use Rattle.serve_core.specs.Setup.{HasBandwidth, IsWithinLimits, StreamSpec, setup_of}
use Rattle.serve_hub.specs.Seats.{StreamSeatValue}
use Rattle.serve_client.specs.Streams.{StreamValue}
use Rattle.serve_work.specs.declared.live.guests.Guest.{Guest}
use Rattle.serve_work.specs.Live.{AllowsRefusal, IsForm}
use Rattle.serve_work.specs.LiveInside.{guests_of, helds_of, nobody, refusal_of, tickets_of}
use Rattle.serve_work.specs.SessionInside.{HeldValue, IsReady}

-- a setup of one stream

all_one : {A : Type 0} (P : A → Type 0) (x : A) → P x → All P (x ∷ [])
all_one P x p zero d less = p
all_one P x p (suc k) d less = absurd (omega (arith, less))

only : {A : Type 0} (P : A → Type 0) (x : A) (k : ℕ) → IsSomeAnd (slice_get (x ∷ []) k) P → P x
only P x zero p = p
only P x (suc k) p = absurd p

-- why a stream has no setup of its own
pub refused_alone : (workers quantum : ℕ) (spec : StreamSpec) (e : SetupError) → IsForm workers quantum
    → IsFault e (setup_of workers quantum (spec ∷ [])) → AllowsRefusal spec (refusal_of e)
refused_alone workers quantum spec BadLimits form fault =
    inl (λ within. fault (record {
      some_workers = form.some_workers;
      workers = form.most_workers;
      some_quantum = form.some_quantum;
      quantum = form.most_quantum;
      some_streams = omega arith;
      streams = omega arith;
      each = all_one IsWithinLimits spec within;
    }))
refused_alone workers quantum spec (BadBandwidth s) form fault =
    inl (fault.0.each 0 spec (omega arith), only (λ x. ¬ HasBandwidth x) spec s fault.1.1)
refused_alone workers quantum spec (Overload s) form fault =
    inl (fault.0.each 0 spec (omega arith), only HasBandwidth spec s fault.1.1)

-- lists that are made item by item

module _ {R W : Type 0} where
  -- one stream more has its number
  pub guests_more : (made made' all : List (Option (Guest R W))) (tickets tickets' : List ℕ) (streams streams' : List StreamValue)
      (ticket : ℕ) (stream : StreamValue) → tickets ≡ ticket ∷ tickets' → streams ≡ stream ∷ streams'
      → made ++ guests_of tickets streams ≡ all → made' ≡ made ++ Some (record { ticket = ticket; stream = stream }) ∷ []
      → made' ++ guests_of tickets' streams' ≡ all
  guests_more made made' all tickets tickets' streams streams' ticket stream e f told more =
      let one : Guest R W = record { ticket = ticket; stream = stream } in
      let now : made ++ guests_of (ticket ∷ tickets') (stream ∷ streams') ≡ all =
      subst (λ (these : List StreamValue). made ++ guests_of (ticket ∷ tickets') these ≡ all) f
      (subst (λ (these : List ℕ). made ++ guests_of these streams ≡ all) e told) in
      ap (λ (gs : List (Option (Guest R W))). gs ++ guests_of tickets' streams') more
      ∙ append_assoc made (Some one ∷ []) (guests_of tickets' streams') ∙ now

  pub guests_made : (made all : List (Option (Guest R W))) (tickets : List ℕ) (streams : List StreamValue)
      → (length tickets ≡ 0) ⊎ (length streams ≡ 0) → made ++ guests_of tickets streams ≡ all → made ≡ all
  guests_made made all [] streams p e = sym (append-nil made) ∙ e
  guests_made made all (ticket ∷ tickets) [] p e = sym (append-nil made) ∙ e
  guests_made made all (ticket ∷ tickets) (stream ∷ streams) (inl p) e = absurd (omega (arith, p))
  guests_made made all (ticket ∷ tickets) (stream ∷ streams) (inr p) e = absurd (omega (arith, p))

  -- the seats behind the others, of which one more is moved
  pub idle_more : (made made' all : List (Option (Guest R W))) (idle idle' : List StreamSeatValue) (seat : StreamSeatValue)
      → idle ≡ seat ∷ idle' → made ++ nobody idle ≡ all → made' ≡ made ++ None ∷ [] → made' ++ nobody idle' ≡ all
  idle_more made made' all idle idle' seat e told more =
      let now : made ++ nobody (seat ∷ idle') ≡ all = subst (λ (these : List StreamSeatValue). made ++ nobody these ≡ all) e told in
      ap (λ (gs : List (Option (Guest R W))). gs ++ nobody idle') more ∙ append_assoc made (None ∷ []) (nobody idle') ∙ now

  pub idle_made : (made all : List (Option (Guest R W))) (idle : List StreamSeatValue) → length idle ≡ 0
      → made ++ nobody idle ≡ all → made ≡ all
  idle_made made all [] p e = sym (append-nil made) ∙ e
  idle_made made all (seat ∷ idle) p e = absurd (omega (arith, p))

pub moved_more : {A : Type 0} (made made' all items items' : List A) (x : A) → items ≡ x ∷ items' → made ++ items ≡ all
    → made' ≡ made ++ x ∷ [] → made' ++ items' ≡ all
moved_more made made' all items items' x e told more =
    ap (λ zs. zs ++ items') more ∙ append_assoc made (x ∷ []) items'
    ∙ subst (λ (these : List _). made ++ these ≡ all) e told

pub all_moved : {A : Type 0} (made all items : List A) → length items ≡ 0 → made ++ items ≡ all → made ≡ all
all_moved made all [] p e = sym (append-nil made) ∙ e
all_moved made all (x ∷ items) p e = absurd (omega (arith, p))

-- the streams with their seats, one by one
module _ {R W : Type 0} where
  helds_split : (seat : StreamSeatValue) (guest : Option (Guest R W)) (seats : List StreamSeatValue) (guests : List (Option (Guest R W)))
      → helds_of (seat ∷ seats) (guest ∷ guests) ≡ helds_of (seat ∷ []) (guest ∷ []) ++ helds_of seats guests
  helds_split seat None seats guests = refl
  helds_split seat (Some guest) seats guests = refl

  tickets_split : (seat : StreamSeatValue) (guest : Option (Guest R W)) (seats : List StreamSeatValue) (guests : List (Option (Guest R W)))
      → tickets_of (seat ∷ seats) (guest ∷ guests) ≡ tickets_of (seat ∷ []) (guest ∷ []) ++ tickets_of seats guests
  tickets_split seat None seats guests = refl
  tickets_split seat (Some guest) seats guests = refl

  pub turns_more : (made made' all : List (Option HeldValue)) (seats seats' : List StreamSeatValue) (seat : StreamSeatValue)
      (guests guests' : List (Option (Guest R W))) (guest : Option (Guest R W)) → seats ≡ seat ∷ seats' → guests ≡ guest ∷ guests'
      → made ++ map Some (helds_of seats guests) ≡ all → made' ≡ made ++ map Some (helds_of (seat ∷ []) (guest ∷ []))
      → made' ++ map Some (helds_of seats' guests') ≡ all
  turns_more made made' all seats seats' seat guests guests' guest e f told is =
      let one : List HeldValue = helds_of (seat ∷ []) (guest ∷ []) in
      let rest : List HeldValue = helds_of seats' guests' in
      let now : made ++ map Some (helds_of (seat ∷ seats') (guest ∷ guests')) ≡ all =
      subst (λ (gs : List (Option (Guest R W))). made ++ map Some (helds_of (seat ∷ seats') gs) ≡ all) f
      (subst (λ (ss : List StreamSeatValue). made ++ map Some (helds_of ss guests) ≡ all) e told) in
      ap (λ (ts : List (Option HeldValue)). ts ++ map Some rest) is ∙ append_assoc made (map Some one) (map Some rest)
      ∙ ap (λ (ts : List (Option HeldValue)). made ++ ts)
      (sym (map-append Some one rest) ∙ ap (map Some) (sym (helds_split seat guest seats' guests'))) ∙ now

  pub tickets_more : (made made' all : List ℕ) (seats seats' : List StreamSeatValue) (seat : StreamSeatValue)
      (guests guests' : List (Option (Guest R W))) (guest : Option (Guest R W)) → seats ≡ seat ∷ seats' → guests ≡ guest ∷ guests'
      → made ++ tickets_of seats guests ≡ all → made' ≡ made ++ tickets_of (seat ∷ []) (guest ∷ [])
      → made' ++ tickets_of seats' guests' ≡ all
  tickets_more made made' all seats seats' seat guests guests' guest e f told is =
      let one : List ℕ = tickets_of (seat ∷ []) (guest ∷ []) in
      let rest : List ℕ = tickets_of seats' guests' in
      let now : made ++ tickets_of (seat ∷ seats') (guest ∷ guests') ≡ all =
      subst (λ (gs : List (Option (Guest R W))). made ++ tickets_of (seat ∷ seats') gs ≡ all) f
      (subst (λ (ss : List StreamSeatValue). made ++ tickets_of ss guests ≡ all) e told) in
      ap (λ (ts : List ℕ). ts ++ rest) is ∙ append_assoc made one rest
      ∙ ap (λ (ts : List ℕ). made ++ ts) (sym (tickets_split seat guest seats' guests')) ∙ now

  ready_both : (seat : StreamSeatValue) (guest : Option (Guest R W)) (seats : List StreamSeatValue) (guests : List (Option (Guest R W)))
      → AllByRecursion IsReady (helds_of (seat ∷ seats) (guest ∷ guests))
      → AllByRecursion IsReady (helds_of (seat ∷ []) (guest ∷ [])) × AllByRecursion IsReady (helds_of seats guests)
  ready_both seat None seats guests p = (tt, p)
  ready_both seat (Some guest) seats guests p = ((p.0, tt), p.1)

  pub ready_split : (seats seats' : List StreamSeatValue) (seat : StreamSeatValue) (guests guests' : List (Option (Guest R W)))
      (guest : Option (Guest R W)) → seats ≡ seat ∷ seats' → guests ≡ guest ∷ guests'
      → AllByRecursion IsReady (helds_of seats guests)
      → AllByRecursion IsReady (helds_of (seat ∷ []) (guest ∷ [])) × AllByRecursion IsReady (helds_of seats' guests')
  ready_split seats seats' seat guests guests' guest e f p =
      ready_both seat guest seats' guests'
      (subst (λ (gs : List (Option (Guest R W))). AllByRecursion IsReady (helds_of (seat ∷ seats') gs)) f
      (subst (λ (ss : List StreamSeatValue). AllByRecursion IsReady (helds_of ss guests)) e p))

  none_seated : (seats : List StreamSeatValue) (guests : List (Option (Guest R W))) → (length seats ≡ 0) ⊎ (length guests ≡ 0)
      → (helds_of seats guests ≡ []) × (tickets_of seats guests ≡ [])
  none_seated [] guests p = (refl, refl)
  none_seated (seat ∷ seats) [] p = (refl, refl)
  none_seated (seat ∷ seats) (guest ∷ guests) (inl p) = absurd (omega (arith, p))
  none_seated (seat ∷ seats) (guest ∷ guests) (inr p) = absurd (omega (arith, p))

  pub all_made : (turns all : List (Option HeldValue)) (tickets all_tickets : List ℕ) (seats : List StreamSeatValue)
      (guests : List (Option (Guest R W))) → (length seats ≡ 0) ⊎ (length guests ≡ 0)
      → turns ++ map Some (helds_of seats guests) ≡ all → tickets ++ tickets_of seats guests ≡ all_tickets
      → (turns ≡ all) × (tickets ≡ all_tickets)
  all_made turns all tickets all_tickets seats guests p e f =
      let none = none_seated seats guests p in (
        sym (append-nil turns) ∙ ap (λ (hs : List HeldValue). turns ++ map Some hs) (sym none.0) ∙ e,
        sym (append-nil tickets) ∙ ap (λ (ts : List ℕ). tickets ++ ts) (sym none.1) ∙ f,
      )

pub popped_one : {A : Type 0} (xs rest : List A) (x y : A) → xs ≡ x ∷ [] → xs ≡ rest ++ y ∷ [] → y ≡ x
popped_one xs [] x y e f = let same : x ∷ [] ≡ y ∷ [] = sym e ∙ f in cc
popped_one xs (z ∷ rest) x y e f =
    absurd (omega (arith, ap length e, ap length f, length-append rest (y ∷ [])))
