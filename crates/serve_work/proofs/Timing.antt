-- Frames whose moments the clock may give, by the journal's own clock.
use Rattle.std.proofs.Common.{ℕ, ◌≡◌, ◌≤◌, ◌<◌, nat_lt, Bool, true, false, if◌then◌else◌, List, [], ◌∷◌, ◌++◌}
use Rattle.std.proofs.Common.{Option, Some, None, IfSome, IsSomeAnd, filter, map, reverse, refl, sym, ◌∙◌, ap, subst}
use Rattle.std.proofs.Common.{arith}
use Rattle.std.specs.List.{AllByRecursion}
use Rattle.std.proofs.lemmas.List.{map-append, reverse-append}
use Rattle.std.proofs.lemmas.Bool.Decides.{nat_tests}
use Rattle.std.proofs.lemmas.List.Elements.{filter-append}
use Rattle.serve_core.specs.Bare.{Blank}
use Rattle.serve_core.specs.Leads.{state_from}
use Rattle.serve_core.specs.Setup.{StreamSpec}
use Rattle.serve_core.specs.States.{State}
use Rattle.serve_hub.specs.declared.entry.Act.{Act}
use Rattle.serve_hub.specs.declared.entry.Act.TheVariants as acts
use Rattle.serve_hub.specs.declared.entry.Entry.{Entry}
use Rattle.serve_hub.specs.declared.entry.Seat.{Seat}
use Rattle.serve_hub.specs.declared.entry.Seat.TheVariants.{Stream}
use Rattle.serve_hub.specs.declared.moments.Moments.{Moments}
use Rattle.serve_hub.specs.Ends.{ClockReached, IsOfferOf, acts_of, clock_after, is_same_seat}
use Rattle.serve_hub.specs.Journal.{AreEntries, IsEntry, clock_in, entry_of, tick_of, transcript_of}
use Rattle.serve_hub.proofs.Clocks.{clock_joined, clock_step}
use Rattle.serve_client.specs.Clients.{AreAtMoments, IsAtMoment}
use Rattle.serve_work.specs.Entries.{AreTimed}

tick_by : (b : Bool) (at moment : ℕ) → Some moment ≡ (if b then Some at else None) → at ≡ moment
tick_by true at moment e = cc
tick_by false at moment e = absurd (cc)

below : (a b : ℕ) → a < b → nat_lt a b ≡ true
below a b l = grind (arith, nat_tests)

at_most : (a b : ℕ) → b ≤ a → nat_lt a b ≡ false
at_most a b l = grind (arith, nat_tests)

-- a clock that is earlier than a moment goes on to it, and one that has come to it stays
goes_on : (clock at : ℕ) → clock < at → Some at ≡ tick_of clock at
goes_on clock at l = rw (below clock at l) refl

stays : (clock at : ℕ) → at ≤ clock → None ≡ tick_of clock at
stays clock at l = rw (at_most clock at l) refl

own_calls : (seat : Seat) (past : List Entry) (e : Entry)
    → acts_of seat (reverse (e ∷ past)) ≡ acts_of seat (reverse past) ++ acts_of seat (e ∷ [])
own_calls seat past e =
    let is = λ (x : Entry). is_same_seat seat x.seat in
    ap (acts_of seat) (reverse-append (e ∷ []) past)
    ∙ ap (map (λ (x : Entry). x.act)) (filter-append is (reverse past) (e ∷ []))
    ∙ map-append (λ (x : Entry). x.act) (filter is (reverse past)) (filter is (e ∷ []))

front : {A : Type 0} (P : A → Type 0) (xs ys : List A) → AllByRecursion P (xs ++ ys) → AllByRecursion P xs
front P [] ys p = tt
front P (x ∷ xs) ys p = (p.0, front P xs ys p.1)

back : {A : Type 0} (P : A → Type 0) (xs ys : List A) → AllByRecursion P (xs ++ ys) → AllByRecursion P ys
back P [] ys p = p
back P (x ∷ xs) ys p = back P xs ys p.1

own_seat : (s : ℕ) → is_same_seat (Stream s) (Stream s) ≡ true
own_seat s = grind (arith, nat_tests)

own_act : (s : ℕ) (act : Act) → acts_of (Stream s) (entry_of (Stream s) act ∷ []) ≡ act ∷ []
own_act s act = rw (own_seat s) refl

module _ (Gives : ℕ → Type 0) where
  abbrev IsAtSome : Act → Type 0
  IsAtSome act = (clock : ℕ) × IsAtMoment Gives clock act

  -- an entry of a frame has a moment that the clock may give, where the first moment of its seat is one
  timed_by : (specs : List StreamSpec) (m : State Blank) (s : ℕ) (moments : Option Moments) (act : Act)
      → IsEntry specs m (Stream s) act
      → (IsOfferOf s (Stream s) act → IsSomeAnd moments (λ t. t.first ≤ clock_after m.clock (Stream s) act))
      → IfSome moments (λ t. Gives t.first) → IsAtSome act → IsAtMoment Gives m.clock act
  timed_by specs m s moments (acts.Offered (Some moment) number) is reached given at =
      let same : at.1.0 ≡ moment = tick_by (nat_lt at.0 at.1.0) at.1.0 moment at.1.2 in
      (moment, subst Gives same at.1.1, goes_on m.clock moment is)
  timed_by specs m s None (acts.Offered None number) is reached given at = absurd (reached refl)
  timed_by specs m s (Some moments) (acts.Offered None number) is reached given at =
      (moments.first, given, stays m.clock moments.first (reached refl))
  timed_by specs m s moments act is reached given at = tt

  -- the same where the entry's seat is the stream's
  timed_entry : (specs : List StreamSpec) (m : State Blank) (s : ℕ) (moments : Option Moments) (seat : Seat) (act : Act)
      (after : ℕ) → after ≡ clock_after m.clock seat act → IsEntry specs m seat act
      → (IsOfferOf s seat act → IsSomeAnd moments (λ t. t.first ≤ after)) → IfSome moments (λ t. Gives t.first)
      → AllByRecursion IsAtSome (acts_of (Stream s) (entry_of seat act ∷ [])) → seat ≡ Stream s → IsAtMoment Gives m.clock act
  timed_entry specs m s moments seat act after stands is reached given at e =
      let its : AllByRecursion IsAtSome (act ∷ []) =
      subst (AllByRecursion IsAtSome) (own_act s act) (subst (λ (x : Seat). AllByRecursion IsAtSome (acts_of (Stream s)
      (entry_of x act ∷ []))) e at) in
      let there : after ≡ clock_after m.clock (Stream s) act = stands ∙ ap (λ (x : Seat). clock_after m.clock x act) e in
      timed_by specs m s moments act (subst (λ (x : Seat). IsEntry specs m x act) e is)
      (subst (λ (x : Seat). IsOfferOf s x act → IsSomeAnd moments (λ t. t.first ≤ clock_after m.clock (Stream s) act)) e
      (subst (λ (k : ℕ). IsOfferOf s seat act → IsSomeAnd moments (λ t. t.first ≤ k)) there reached)) given its.0

  -- and so have all entries of a stream's frames
  pub timed : (s : ℕ) (moments : Option Moments) (specs : List StreamSpec) (opening : State Blank) (past : List Entry)
      → AreEntries specs opening past → ClockReached s moments specs opening past → IfSome moments (λ t. Gives t.first)
      → AreAtMoments Gives (acts_of (Stream s) (reverse past)) → AreTimed Gives s specs opening past
  timed s moments specs opening [] entries reached given at = tt
  timed s moments specs opening (e ∷ past) entries reached given at =
      let earlier = acts_of (Stream s) (reverse past) in
      let both : AllByRecursion IsAtSome (earlier ++ acts_of (Stream s) (e ∷ [])) =
      subst (AllByRecursion IsAtSome) (own_calls (Stream s) past e) at in (
        timed s moments specs opening past entries.0 reached.0 given (front IsAtSome earlier (acts_of (Stream s) (e ∷ [])) both),
        timed_entry specs (state_from opening (transcript_of specs opening past)) s moments e.seat e.act
            (clock_in specs opening (e ∷ past)) (clock_step specs opening past e) entries.1 reached.1 given
            (back IsAtSome earlier (acts_of (Stream s) (e ∷ [])) both),
      )

  -- behind a journal that led to a state, they have them as from there
  pub timed_on : (s : ℕ) (specs : List StreamSpec) (l m : State Blank) (first second : List Entry)
      → state_from l (transcript_of specs l first) ≡ m → AreTimed Gives s specs l first
      → AreTimed Gives s specs m second → AreTimed Gives s specs l (second ++ first)
  timed_on s specs l m first [] e p q = p
  timed_on s specs l m first (entry ∷ second) e p q = (
    timed_on s specs l m first second e p q.0,
    λ is. subst (λ (clock : ℕ). IsAtMoment Gives clock entry.act) (sym (clock_joined specs l m first second e)) (q.1 is),
  )
