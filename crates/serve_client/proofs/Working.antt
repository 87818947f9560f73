-- What a worker adds to its seat's calls.
use Rattle.std.proofs.Common.{◌≡◌, ◌≢◌, ℕ, Bool, true, List, [], ◌∷◌, ◌++◌, Option, Some, None, MatchOption, refl}
use Rattle.std.proofs.Common.{ap, ◌∙◌, append-nil, append_assoc, inl, inr, subst, sym}
use Rattle.std.specs.Prelude.{IfSome}
use Rattle.lease.specs.Lease.{LeaseValue}
use Rattle.serve_core.specs.declared.refusal.Refusal.TheVariants as cores
use Rattle.serve_hub.specs.declared.entry.Act.{Act}
use Rattle.serve_hub.specs.declared.entry.Act.TheVariants.{Admitted, Closed, Collected, Leased, Offered, Settled}
use Rattle.serve_hub.specs.declared.entry.Settled as code
use Rattle.serve_hub.specs.declared.refusal.Came.TheVariants as came
use Rattle.serve_hub.specs.declared.refusal.Refusal.{Refusal}
use Rattle.serve_hub.specs.declared.refusal.Refusal.TheVariants.{Core, HistoryFull, StrayLease, Torn}
use Rattle.serve_hub.specs.Calls.{FinishesOther, IsEndOfLeases, IsSettleRefusal, Leases, Settles, SettlesAndLeases}
use Rattle.serve_hub.specs.Seats.{WorkSeatValue}
use Rattle.serve_client.specs.Workers.{AreSpent, Works, adding}

pub spent_then : (calls : List Act) (stream number grant bands : ℕ) (finished : Bool) → AreSpent calls → bands ≡ grant
    → AreSpent (calls ++ Leased stream number grant ∷ Settled bands finished ∷ [])
spent_then [] stream number grant bands finished p e = (e, tt)
spent_then (Leased a b c ∷ Settled n f ∷ calls) stream number grant bands finished p e =
    (p.0, spent_then calls stream number grant bands finished p.1 e)
spent_then (Leased a b c ∷ []) stream number grant bands finished p e = absurd p
spent_then (Leased a b c ∷ Leased x y z ∷ calls) stream number grant bands finished p e = absurd p
spent_then (Leased a b c ∷ Offered x y ∷ calls) stream number grant bands finished p e = absurd p
spent_then (Leased a b c ∷ Collected x ∷ calls) stream number grant bands finished p e = absurd p
spent_then (Leased a b c ∷ Closed ∷ calls) stream number grant bands finished p e = absurd p
spent_then (Leased a b c ∷ Admitted ∷ calls) stream number grant bands finished p e = absurd p
spent_then (Settled x y ∷ calls) stream number grant bands finished p e = absurd p
spent_then (Offered x y ∷ calls) stream number grant bands finished p e = absurd p
spent_then (Collected x ∷ calls) stream number grant bands finished p e = absurd p
spent_then (Closed ∷ calls) stream number grant bands finished p e = absurd p
spent_then (Admitted ∷ calls) stream number grant bands finished p e = absurd p

adding_more : (a b : List Act) (seat : WorkSeatValue) → adding b (adding a seat) ≡ adding (a ++ b) seat
adding_more a b seat =
    let with_list : List Act → WorkSeatValue = λ list. record seat { calls = record seat.calls { list = list } } in
    ap with_list (append_assoc seat.calls.list a b)

-- a lease and the settlement of its whole grant
pub works_on : (seat s0 s1 s2 : WorkSeatValue) (added : List Act) (stream number grant bands : ℕ) (finished : Bool)
    → AreSpent added → s0 ≡ adding added seat → s1 ≡ adding (Leased stream number grant ∷ []) s0
    → s2 ≡ adding (Settled bands finished ∷ []) s1 → bands ≡ grant
    → (more : List Act) × AreSpent more × (s2 ≡ adding more seat)
works_on seat s0 s1 s2 added stream number grant bands finished spent p q r e = (
  added ++ Leased stream number grant ∷ Settled bands finished ∷ [],
  spent_then added stream number grant bands finished spent e,
  r ∙ ap (adding (Settled bands finished ∷ [])) (q ∙ ap (adding (Leased stream number grant ∷ [])) p)
      ∙ adding_more (Leased stream number grant ∷ []) (Settled bands finished ∷ []) (adding added seat)
      ∙ adding_more added (Leased stream number grant ∷ Settled bands finished ∷ []) seat,
)

-- no more leases
pub works_to_end : (seat s0 s1 : WorkSeatValue) (added : List Act) (e : Refusal) → AreSpent added
    → s0 ≡ adding added seat → s1 ≡ s0 → IsEndOfLeases s0 e → e ≢ Core cores.NoneReady → Works seat s1 e
works_to_end seat s0 s1 added e spent p q why waited = record {
  added = added;
  seat = q ∙ p;
  ends = inl (spent, subst (λ (s : WorkSeatValue). IsEndOfLeases s e) (sym q) why, waited);
}

-- a lease that isn't settled
pub works_last : (seat s0 s1 s2 : WorkSeatValue) (added : List Act) (stream number grant : ℕ) (e : Refusal)
    → AreSpent added → s0 ≡ adding added seat → s1 ≡ adding (Leased stream number grant ∷ []) s0 → s2 ≡ s1
    → IsSettleRefusal s1 e → Works seat s2 e
works_last seat s0 s1 s2 added stream number grant e spent p q r why = record {
  added = added ++ Leased stream number grant ∷ [];
  seat = r ∙ q ∙ ap (adding (Leased stream number grant ∷ [])) p ∙ adding_more added (Leased stream number grant ∷ []) seat;
  ends = inr (inl (
    record { spent = added; stream = stream; number = number; grant = grant; are_spent = spent; last = refl },
    subst (λ (s : WorkSeatValue). IsSettleRefusal s e) (sym r) why,
  ));
}

-- what is settled after all is settled whole, and told as another number
settled_other : (lease : LeaseValue) (e : Refusal) (old new : WorkSeatValue) → FinishesOther lease e old new
    → (new ≡ adding (Settled lease.used true ∷ []) old) × ((n : ℕ) × (e ≡ Torn (came.Number n)))
settled_other lease (Torn (came.Number n)) old new p = (p.2, (n, refl))
settled_other lease (Torn (came.Refused e)) old new p = absurd p
settled_other lease (Torn came.Source) old new p = absurd p
settled_other lease (Torn (came.Limit limit)) old new p = absurd p
settled_other lease (Torn (came.Chain part)) old new p = absurd p
settled_other lease (Torn came.NoPlace) old new p = absurd p
settled_other lease (Torn came.Other) old new p = absurd p
settled_other lease (Core e) old new p = absurd p
settled_other lease HistoryFull old new p = absurd p
settled_other lease StrayLease old new p = absurd p

-- a settlement that is refused: the lease comes back, or it was settled after all
pub works_refused : (seat s0 s1 s2 : WorkSeatValue) (added : List Act) (stream number grant : ℕ) (lease : LeaseValue)
    (e : Refusal) (back : Option LeaseValue) → AreSpent added → s0 ≡ adding added seat
    → s1 ≡ adding (Leased stream number grant ∷ []) s0
    → MatchOption back (FinishesOther lease e s1 s2) (λ back. (back ≡ lease) × (s2 ≡ s1))
    → IfSome back (λ _. IsSettleRefusal s1 e) → lease.used ≡ grant → Works seat s2 e
works_refused seat s0 s1 s2 added stream number grant lease e None spent p q r why used =
    let other = settled_other lease e s1 s2 r in
    let more = works_on seat s0 s1 s2 added stream number grant lease.used true spent p q other.0 used in
    record { added = more.0; seat = more.2; ends = inr (inr (more.1, other.1)) }
works_refused seat s0 s1 s2 added stream number grant lease e (Some back) spent p q r why used =
    works_last seat s0 s1 s2 added stream number grant e spent p q r.1 why

-- the seat has this lease, of which no band is done, behind spent ones
pub record HasNext (seat now : WorkSeatValue) (lease : LeaseValue) : Type 0 where
  pub added : List Act
  pub spent : AreSpent added
  pub leased : Leases lease (adding added seat) now
  pub unused : lease.used ≡ 0

adding_none : (seat : WorkSeatValue) → adding [] seat ≡ seat
adding_none seat =
    let with_list : List Act → WorkSeatValue = λ list. record seat { calls = record seat.calls { list = list } } in
    ap with_list (append-nil seat.calls.list)

-- a worker's first lease
pub first_lease : (seat now : WorkSeatValue) (lease : LeaseValue) → Leases lease seat now → lease.used ≡ 0
    → HasNext seat now lease
first_lease seat now lease leased unused = record {
  added = [];
  spent = tt;
  leased = subst (λ (s : WorkSeatValue). Leases lease s now) (sym (adding_none seat)) leased;
  unused = unused;
}

-- all bands of its lease were done
abbrev pub IsDone : (old new : LeaseValue) → Type 0
IsDone old new = new ≡ record old { job = new.job; used = old.granted }

-- its lease is settled whole
settled_whole : (seat s1 s2 : WorkSeatValue) (lease gone : LeaseValue) (done : code.Settled) → HasNext seat s1 lease
    → IsDone lease gone → Settles gone done s1 s2 → (more : List Act) × AreSpent more × (s2 ≡ adding more seat)
settled_whole seat s1 s2 lease gone done has spent settles =
    works_on seat (adding has.added seat) s1 s2 has.added _ _ _ _ _ has.spent refl has.leased settles
    (ap (λ (l : LeaseValue). l.used) spent)

-- and it gets the next one at once
pub next_at_once : (seat s1 s2 : WorkSeatValue) (lease gone next : LeaseValue) (done : code.Settled)
    (told : Option LeaseValue) → HasNext seat s1 lease → IsDone lease gone → SettlesAndLeases gone done told s1 s2
    → IfSome told (λ next. next.used ≡ 0) → told ≡ Some next → HasNext seat s2 next
next_at_once seat s1 s2 lease gone next done told has spent both unused some =
    let more = settled_whole seat s1 both.mid lease gone done has spent both.settles in
    let leases = subst (λ (x : Option LeaseValue). MatchOption x (s2 ≡ both.mid) (λ next. Leases next both.mid s2)) some
    both.leases in
    record {
      added = more.0;
      spent = more.1;
      leased = subst (λ (s : WorkSeatValue). Leases next s s2) more.2 leases;
      unused = subst (λ (x : Option LeaseValue). IfSome x (λ next. next.used ≡ 0)) some unused;
    }

-- and it gets none at once
settled_alone : (seat s1 s2 : WorkSeatValue) (lease gone : LeaseValue) (done : code.Settled) (told : Option LeaseValue)
    → HasNext seat s1 lease → IsDone lease gone → SettlesAndLeases gone done told s1 s2 → told ≡ None
    → (more : List Act) × AreSpent more × (s2 ≡ adding more seat)
settled_alone seat s1 s2 lease gone done told has spent both none =
    let more = settled_whole seat s1 both.mid lease gone done has spent both.settles in
    let same = subst (λ (x : Option LeaseValue). MatchOption x (s2 ≡ both.mid) (λ next. Leases next both.mid s2)) none
    both.leases in
    (more.0, more.1, same ∙ more.2)

-- but later
pub next_later : (seat s1 s2 s3 : WorkSeatValue) (lease gone next : LeaseValue) (done : code.Settled)
    (told : Option LeaseValue) → HasNext seat s1 lease → IsDone lease gone → SettlesAndLeases gone done told s1 s2
    → told ≡ None → Leases next s2 s3 → next.used ≡ 0 → HasNext seat s3 next
next_later seat s1 s2 s3 lease gone next done told has spent both none leased unused =
    let more = settled_alone seat s1 s2 lease gone done told has spent both none in
    record {
      added = more.0;
      spent = more.1;
      leased = subst (λ (s : WorkSeatValue). Leases next s s3) more.2 leased;
      unused = unused;
    }

-- or never
pub next_never : (seat s1 s2 s3 : WorkSeatValue) (lease gone : LeaseValue) (done : code.Settled)
    (told : Option LeaseValue) (e : Refusal) → HasNext seat s1 lease → IsDone lease gone
    → SettlesAndLeases gone done told s1 s2 → told ≡ None → s3 ≡ s2 → IsEndOfLeases s2 e → e ≢ Core cores.NoneReady
    → Works seat s3 e
next_never seat s1 s2 s3 lease gone done told e has spent both none same why waited =
    let more = settled_alone seat s1 s2 lease gone done told has spent both none in
    works_to_end seat s2 s3 more.0 e more.1 more.2 same why waited

-- its lease isn't settled, or comes back as another's
pub last_refused : (seat s1 s2 : WorkSeatValue) (lease gone : LeaseValue) (e : Refusal) (back : Option LeaseValue)
    → HasNext seat s1 lease → IsDone lease gone
    → MatchOption back (FinishesOther gone e s1 s2) (λ back. (back ≡ gone) × (s2 ≡ s1))
    → IfSome back (λ _. IsSettleRefusal s1 e) → Works seat s2 e
last_refused seat s1 s2 lease gone e back has spent r why =
    works_refused seat (adding has.added seat) s1 s2 has.added _ _ _ gone e back has.spent refl has.leased r why
    (ap (λ (l : LeaseValue). l.used) spent)
