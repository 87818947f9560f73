-- What an event makes of a tally, and why a reply is wrong: the clock, arrivals, leases, bands and settlements.
use Rattle.std.proofs.Common.{ℕ, ◌+◌, ◌-◌, ◌≡◌, ◌≢◌, ◌≤◌, ◌<◌, ◌⊎◌, inl, inr, ◌^◌, Bool, true, false, List}
use Rattle.std.proofs.Common.{length, Option, Some, None, MatchOption, slice_get, slice_set, nat_eq, nat_le, nat_lt}
use Rattle.std.proofs.Common.{if◌then◌else◌, refl, sym, ◌∙◌, ap, subst, arith}
use Rattle.std.proofs.Common.{get_or}
use Rattle.std.proofs.lemmas.Bool.Decides.{nat_tests}
use Rattle.std.proofs.lemmas.Option.{slice_get_within}
use Rattle.cbs_account.specs.declared.limits.TheConstants.{LAST_MOMENT}
use Rattle.cbs_account.specs.Rules.{CanCharge}
use Rattle.edf_pool.specs.Earliest.{IsEarliest}
use Rattle.serve_core.specs.declared.held.Held.{Held}
use Rattle.serve_core.specs.declared.refusal.Refusal.{Refusal}
use Rattle.serve_core.specs.declared.refusal.Refusal.TheVariants as refusals
use Rattle.serve_core.specs.Bare.{Blank, measures_any, is_any_image}
use Rattle.serve_core.specs.Counts.{Back, Came, Ended, Lent, Worked}
use Rattle.serve_core.specs.Events.{Accepted, Arrive, Band, Event, Finished, GivenBack}
use Rattle.serve_core.specs.Events.{Lease, Leased, Refused, Reply, Returned, Settle, Stepped, Then, Tick, Ticked}
use Rattle.serve_core.specs.Reached.{IsReached}
use Rattle.serve_core.specs.Released.{StillFits}
use Rattle.serve_core.specs.Rules.{AllowsArrive, AllowsLease, arrival_refusal, grant, settle_reply}
use Rattle.serve_core.specs.Setup.{steps}
use Rattle.serve_core.specs.Sound.{Sound, out_count}
use Rattle.serve_core.specs.States.{State, StreamState, after, deadlines, did, next_cost, state_of}
use Rattle.serve_core.specs.Tally.{Checks, Ends, IsRightReply}
use Rattle.serve_core.proofs.Charges.AtOnce.{band_allowed, test_no, test_yes}
use Rattle.serve_core.proofs.Charges.Facts.{band_left, lease_of}
use Rattle.serve_core.proofs.Events.Changes.{after_arrive, after_band, after_lease}
use Rattle.serve_core.proofs.Events.Changes.{after_settle, after_tick}
use Rattle.serve_core.proofs.Events.Kept.{sound}
use Rattle.serve_core.proofs.Events.Releases.{fits_is}
use Rattle.serve_core.proofs.Events.Soundness.{one_item}
use Rattle.serve_core.proofs.Events.Steps.{new_lease, state}
use Rattle.serve_core.proofs.Events.Turns.{accepted_none, band_inv, finished_test, first_sized, lease_inv, returned_test}
use Rattle.serve_core.proofs.Events.Turns.{settle_inv, tested_eq, tested_ge, tested_lt, tested_ne}
use Rattle.serve_core.proofs.Items.Lists.{slice_get_here}
use Rattle.serve_core.proofs.Items.Options.{and_some, some_and}
use Rattle.serve_core.proofs.Transcripts.Openings.{step_is}

-- what is reached by bare transcripts
abbrev pub Reached : State Blank → Type 0
Reached m = IsReached measures_any is_any_image m

pub reached_sound : (m : State Blank) → Reached m → Sound m
reached_sound m h = subst Sound h.state (sound measures_any is_any_image h.setup h.past h.is_setup.0 h.legal)

pub reached_fits : (m : State Blank) → Reached m → StillFits m
reached_fits m h =
    subst StillFits h.state (fits_is measures_any is_any_image h.setup h.past h.is_setup.0 h.is_setup.1 h.legal)

pub reached_on : (m n : State Blank) (e : Event Blank) (r : Reply Blank Blank) → Reached m → IsRightReply m e r
    → n ≡ after m e r → Reached n
reached_on m n e r h a same =
    let here : IsRightReply (state_of h.setup h.past) e r = subst (λ (s : State Blank). IsRightReply s e r) (sym h.state) a in
    let step = step_is measures_any is_any_image h.setup h.past e r h.legal here in
    record {
      setup = h.setup;
      is_setup = h.is_setup;
      past = Then h.past e r;
      legal = step.0;
      state = step.1 ∙ ap (λ (s : State Blank). after s e r) h.state ∙ sym same;
    }

pub checks_wrong : (m : State Blank) (e : Event Blank) (r : Reply Blank Blank) → (IsRightReply m e r → ⊥)
    → Checks m e r false m
checks_wrong m e r n =
    record { right = (λ t. absurd (cc), λ a. absurd (n a)); on = λ t. absurd (cc); same = λ t. refl }

pub checks_right : (m n : State Blank) (e : Event Blank) (r : Reply Blank Blank) → IsRightReply m e r
    → n ≡ after m e r → Checks m e r true n
checks_right m n e r a same = record { right = (λ t. a, λ a. refl); on = λ t. same; same = λ t. absurd (cc) }

-- the reply is right, and a legal transcript leads there
pub record Went (m : State Blank) (e : Event Blank) (r : Reply Blank Blank) (n : State Blank) : Type 0 where
  pub checks : Checks m e r true n
  pub reached : Reached n

pub went : (m n : State Blank) (e : Event Blank) (r : Reply Blank Blank) → Reached m → IsRightReply m e r
    → n ≡ after m e r → Went m e r n
went m n e r h a same = record { checks = checks_right m n e r a same; reached = reached_on m n e r h a same }

-- the same of the tally's value
pub told : {m k n : State Blank} {e : Event Blank} {r : Reply Blank Blank} → Went m e r n → m ≡ k
    → Checks k e r true n
told {n = n} {e = e} {r = r} w same = subst (λ (m : State Blank). Checks m e r true n) same w.checks

-- a reply that is right in the tally's value
pub right_in : {m k : State Blank} (e : Event Blank) (r : Reply Blank Blank) → m ≡ k → IsRightReply k e r → IsRightReply m e r
right_in {m = m} {k = k} e r same a = subst (λ (m : State Blank). IsRightReply m e r) (sym same) a

-- the stream that is read at a place is there
pub here_is : {X : Type 0} (xs : List X) (s : ℕ) (y x : X) → slice_get xs s ≡ Some y → x ≡ get_or xs s x
    → slice_get xs s ≡ Some x
here_is xs s y x e v = slice_get_here xs s x (slice_get_within xs s y e) v

-- and so is what is looked up
pub found_is : {X : Type 0} (xs ys : List X) (s : ℕ) (x : X) → ys ≡ xs → true ≡ nat_lt s (length ys)
    → x ≡ get_or ys s x → slice_get xs s ≡ Some x
found_is xs ys s x same l v =
    subst (λ (zs : List _). slice_get zs s ≡ Some x) same (slice_get_here ys s x (tested_lt s (length ys) (sym l)) v)

not_less : (a b : ℕ) → b ≤ a → nat_lt a b ≡ false
not_less a b h = grind (arith, nat_tests)

pub less : (a b : ℕ) → a < b → nat_lt a b ≡ true
less a b h = grind (arith, nat_tests)

-- the clock
tick_tests : (a b : Bool) → let r : Reply Blank Blank = Ticked in
    r ≡ (if a then Refused refusals.Past else if b then Refused refusals.ClockEnd else Ticked)
    → (a ≡ false) × (b ≡ false)
tick_tests true b h = absurd (cc)
tick_tests false true h = absurd (cc)
tick_tests false false h = (refl, refl)

pub tick_facts : (m : State Blank) (to : ℕ) → IsRightReply m (Tick to) Ticked → (m.clock ≤ to) × (to ≤ LAST_MOMENT)
tick_facts m to h =
    let t = tick_tests (nat_lt to m.clock) (nat_lt LAST_MOMENT to) h in
    (tested_ge to m.clock t.0, tested_ge LAST_MOMENT to t.1)

pub tick_right : (m : State Blank) (to : ℕ) → m.clock ≤ to → to ≤ LAST_MOMENT → IsRightReply m (Tick to) Ticked
tick_right m to l e = rw (not_less to m.clock l, not_less LAST_MOMENT to e) refl

pub tick_went : (m : State Blank) (to : ℕ) → Reached m → m.clock ≤ to → to ≤ LAST_MOMENT
    → Went m (Tick to) Ticked (state to m.quantum m.streams m.workers)
tick_went m to h l e =
    went m (state to m.quantum m.streams m.workers) (Tick to) Ticked h (tick_right m to l e) (after_tick Blank m to)

-- arrivals
one_number : (n k : ℕ) → let r : Reply Blank Blank = Accepted n in
    (r ≡ Accepted k) ⊎ (r ≡ GivenBack refusals.NoMemory tt) → n ≡ k
one_number n k (inl e) = cc
one_number n k (inr e) = absurd (cc)

accepts : (b : Bool) (x : StreamState Blank) (n : ℕ) → let r : Reply Blank Blank = Accepted n in
    AllowsArrive b x tt r → (arrival_refusal true x ≡ None) × (n ≡ x.accepted)
accepts true x n a =
    let none = accepted_none Blank Blank (arrival_refusal true x) n x.accepted tt a in
    (none, one_number n x.accepted (rw none at a))
accepts false x n a =
    let none = accepted_none Blank Blank (arrival_refusal false x) n x.accepted tt a in
    let no : false ≡ true =
    first_sized x.is_closed false (nat_eq x.accepted x.spec.frames) (nat_le x.spec.queue (x.accepted - x.finished))
    none in
    absurd (cc)

arrive_by : (o : Option (StreamState Blank)) (n : ℕ) → let r : Reply Blank Blank = Accepted n in
    MatchOption o (r ≡ GivenBack refusals.NoStream tt)
    (λ x. (b : Bool) × measures_any x.spec tt b × AllowsArrive b x tt r)
    → (x : StreamState Blank) × (o ≡ Some x) × (arrival_refusal true x ≡ None) × (n ≡ x.accepted)
arrive_by None n h = absurd (cc)
arrive_by (Some x) n h = let told = accepts h.0 x n h.2 in (x, refl, told.0, told.1)

pub arrive_facts : (m : State Blank) (s n : ℕ) → IsRightReply m (Arrive s tt) (Accepted n)
    → (x : StreamState Blank) × (slice_get m.streams s ≡ Some x) × (arrival_refusal true x ≡ None) × (n ≡ x.accepted)
arrive_facts m s n a = arrive_by (slice_get m.streams s) n a

pub arrive_right : (m : State Blank) (s n : ℕ) (x : StreamState Blank) → slice_get m.streams s ≡ Some x
    → arrival_refusal true x ≡ None → n ≡ x.accepted → IsRightReply m (Arrive s tt) (Accepted n)
arrive_right m s n x e none same = rw e (true, tt, rw none (inl (ap Accepted same)))

pub few_accepted : (m : State Blank) (s : ℕ) (x : StreamState Blank) → Reached m → slice_get m.streams s ≡ Some x
    → (m.clock ≤ LAST_MOMENT) × (x.accepted < 2 ^ 63)
few_accepted m s x h e =
    let all = reached_sound m h in
    let own = all.streams s x e in
    (all.clock, omega (arith, own.limit, own.limits.frames))

pub arrive_went : (m : State Blank) (s n : ℕ) (x y : StreamState Blank) → Reached m → slice_get m.streams s ≡ Some x
    → IsRightReply m (Arrive s tt) (Accepted n) → y ≡ did x (Came m.clock tt)
    → Went m (Arrive s tt) (Accepted n) (state m.clock m.quantum (slice_set m.streams s y) m.workers)
arrive_went m s n x y h e a same =
    let r : Reply Blank Blank = Accepted n in
    went m _ (Arrive s tt) r h a
    (ap (λ (y : StreamState Blank). state m.clock m.quantum (slice_set m.streams s y) m.workers) same
    ∙ after_arrive Blank m s tt r x e)

-- leases
pub lease_facts : (m : State Blank) (w s n g : ℕ) → IsRightReply m (Lease w) (Leased s n g)
    → (slice_get m.workers w ≡ Some None) × IsEarliest (deadlines m) s
    × ((x : StreamState Blank) × (slice_get m.streams s ≡ Some x) × (n ≡ x.finished) × (g ≡ grant m.quantum x))
lease_facts m w s n g a =
    let r : Reply Blank Blank = Leased s n g in
    let free = lease_inv Blank Blank (slice_get m.workers w) (AllowsLease m r) s n g a in
    let y = some_and (slice_get m.streams s) _ free.1.1 in
    (free.0, free.1.0, (y.0, y.1, y.2.0, y.2.1))

pub lease_right : (m : State Blank) (w s n g : ℕ) (x : StreamState Blank) → slice_get m.workers w ≡ Some None
    → IsEarliest (deadlines m) s → slice_get m.streams s ≡ Some x → n ≡ x.finished → g ≡ grant m.quantum x
    → IsRightReply m (Lease w) (Leased s n g)
lease_right m w s n g x free first e number granted =
    rw free (first, and_some (slice_get m.streams s) _ x e (number, granted))

-- the last test: the grant
pub lease_decides : (m k : State Blank) (w s n g own : ℕ) (x : StreamState Blank) → m ≡ k
    → slice_get k.workers w ≡ Some None → IsEarliest (deadlines m) s → slice_get m.streams s ≡ Some x
    → n ≡ x.finished → own ≡ grant m.quantum x
    → (nat_eq g own ≡ true → IsRightReply k (Lease w) (Leased s n g)) × (IsRightReply k (Lease w) (Leased s n g) → nat_eq g own ≡ true)
lease_decides m k w s n g own x v free first e number granted =
    let r : Reply Blank Blank = Leased s n g in
    let free : slice_get m.workers w ≡ Some None =
    subst (λ (m : State Blank). slice_get m.workers w ≡ Some None) (sym v) free in
    subst (λ (k : State Blank). (nat_eq g own ≡ true → IsRightReply k (Lease w) r) × (IsRightReply k (Lease w) r → nat_eq g own ≡ true))
    v (
      λ passes. lease_right m w s n g x free first e number (tested_eq g own passes ∙ granted),
      λ a.
          let f = lease_facts m w s n g a in
          let same : f.2.0 ≡ x = one_item m.streams s s f.2.0 x refl f.2.1 e in
          let its : g ≡ grant m.quantum x =
          subst (λ (y : StreamState Blank). g ≡ grant m.quantum y) same f.2.3 in
          test_yes g own (its ∙ sym granted),
    )

pub few_done : (m : State Blank) (s : ℕ) (x : StreamState Blank) → Reached m → slice_get m.streams s ≡ Some x
    → x.done ≤ steps x.spec
few_done m s x h e = ((reached_sound m h).streams s x e).done

pub lease_went : (m : State Blank) (w s n g : ℕ) (x y : StreamState Blank) → Reached m
    → slice_get m.streams s ≡ Some x → IsRightReply m (Lease w) (Leased s n g) → y ≡ did x (Lent w)
    → Went m (Lease w) (Leased s n g)
    (state m.clock m.quantum (slice_set m.streams s y) (slice_set m.workers w (Some (new_lease s n g))))
lease_went m w s n g x y h e a same =
    let r : Reply Blank Blank = Leased s n g in
    went m _ (Lease w) r h a
    (ap (λ (y : StreamState Blank). state m.clock m.quantum (slice_set m.streams s y)
    (slice_set m.workers w (Some (new_lease s n g)))) same
    ∙ after_lease Blank m w s n g x (lease_facts m w s n g a).0 e)

-- the stream of a lease
pub lease_stream : (m : State Blank) (w : ℕ) (l : Held) → Reached m → slice_get m.workers w ≡ Some (Some l)
    → (x : StreamState Blank) × (slice_get m.streams l.stream ≡ Some x)
lease_stream m w l h mine = let found = (reached_sound m h).leases w l mine in (found.0, found.1)

-- a lease that the tally's value has
pub held_in : (m k : State Blank) (w : ℕ) (l : Held) → m ≡ k → slice_get k.workers w ≡ Some (Some l)
    → slice_get m.workers w ≡ Some (Some l)
held_in m k w l v e = subst (λ (m : State Blank). slice_get m.workers w ≡ Some (Some l)) (sym v) e

pub stream_within : (m : State Blank) (w : ℕ) (l : Held) → Reached m → slice_get m.workers w ≡ Some (Some l)
    → l.stream < length m.streams
stream_within m w l h mine =
    let y = lease_stream m w l h mine in slice_get_within m.streams l.stream y.0 y.1

pub worker_within : (m : State Blank) (w : ℕ) (l : Held) → slice_get m.workers w ≡ Some (Some l)
    → w < length m.workers
worker_within m w l mine = slice_get_within m.workers w (Some l) mine

pub its_row : (m : State Blank) (w : ℕ) (l : Held) (x : StreamState Blank) → Reached m
    → slice_get m.workers w ≡ Some (Some l) → x ≡ get_or m.streams l.stream x → slice_get m.streams l.stream ≡ Some x
its_row m w l x h mine v =
    let y = lease_stream m w l h mine in here_is m.streams l.stream y.0 x y.1 v

-- bands
pub more_used : (m : State Blank) (w : ℕ) (l : Held) → Reached m → slice_get m.workers w ≡ Some (Some l)
    → l.used ≢ l.grant → l.used < l.grant
more_used m w l h mine more =
    let y = lease_stream m w l h mine in
    let its = lease_of m w l y.0 (reached_sound m h) mine y.1 in
    omega (arith, its.used)

pub band_facts : (m : State Blank) (w : ℕ) → IsRightReply m (Band w) Stepped
    → (l : Held) × (slice_get m.workers w ≡ Some (Some l)) × (l.used ≢ l.grant)
band_facts m w a = band_inv Blank Blank (slice_get m.workers w) a

pub band_right : (m : State Blank) (w : ℕ) (l : Held) → slice_get m.workers w ≡ Some (Some l) → l.used ≢ l.grant
    → IsRightReply m (Band w) Stepped
band_right m w l mine more = band_allowed measures_any is_any_image m w l mine more

pub can_step : (m : State Blank) (w : ℕ) (l : Held) (x : StreamState Blank) → Reached m
    → slice_get m.workers w ≡ Some (Some l) → slice_get m.streams l.stream ≡ Some x → l.used ≢ l.grant
    → (x.done < steps x.spec) × CanCharge (next_cost x) x.account × (x.charged + next_cost x < 2 ^ 64)
can_step m w l x h mine e more =
    let all = reached_sound m h in
    let its = lease_of m w l x all mine e in
    band_left m w l x all mine e (omega (arith, its.used))

pub band_went : (m : State Blank) (w : ℕ) (l k : Held) (x y : StreamState Blank) → Reached m
    → slice_get m.workers w ≡ Some (Some l) → slice_get m.streams l.stream ≡ Some x → l.used ≢ l.grant
    → (let more : Held = record l { used = l.used + 1 } in k ≡ more) → y ≡ did x Worked
    → Went m (Band w) Stepped
    (state m.clock m.quantum (slice_set m.streams l.stream y) (slice_set m.workers w (Some k)))
band_went m w l k x y h mine e more one same =
    let r : Reply Blank Blank = Stepped in
    went m _ (Band w) r h (band_right m w l mine more)
    (ap (λ (y : StreamState Blank). state m.clock m.quantum (slice_set m.streams l.stream y)
    (slice_set m.workers w (Some k))) same
    ∙ after_band Blank m w l k x mine e (ap Some (sym one)))

-- settlements
back_reply : (x : StreamState Blank) → x.done ≢ steps x.spec
    → let r : Reply Blank Blank = Returned in r ≡ settle_reply x
back_reply x n = rw (test_no x.done (steps x.spec) n) refl

end_reply : (x : StreamState Blank) (n : ℕ) → x.done ≡ steps x.spec → n ≡ x.finished
    → let r : Reply Blank Blank = Finished n in r ≡ settle_reply x
end_reply x n all same = rw (test_yes x.done (steps x.spec) all, same) refl

one_lease : (m : State Blank) (w : ℕ) (k l : Held) → slice_get m.workers w ≡ Some (Some k)
    → slice_get m.workers w ≡ Some (Some l) → k ≡ l
one_lease m w k l e f = let same : Some k ≡ Some l = one_item m.workers w w (Some k) (Some l) refl e f in cc

pub band_spent : (m : State Blank) (w : ℕ) (l : Held) → slice_get m.workers w ≡ Some (Some l) → l.used ≡ l.grant
    → IsRightReply m (Band w) Stepped → ⊥
band_spent m w l mine e a =
    let f = band_facts m w a in
    f.2 (subst (λ (k : Held). k.used ≡ k.grant) (sym (one_lease m w f.0 l f.1 mine)) e)

-- a settlement is of a lease
pub settle_holds : (m : State Blank) (w : ℕ) (r : Reply Blank Blank) → ((k : Refusal) → r ≡ Refused k → ⊥)
    → IsRightReply m (Settle w) r → (l : Held) × (slice_get m.workers w ≡ Some (Some l))
settle_holds m w r other a =
    let found = settle_inv Blank Blank (slice_get m.workers w) _ r other a in (found.0, found.1)

pub back_holds : (m : State Blank) (w : ℕ) → IsRightReply m (Settle w) Returned
    → (l : Held) × (slice_get m.workers w ≡ Some (Some l))
back_holds m w a = settle_holds m w Returned (λ k e. cc) a

pub end_holds : (m : State Blank) (w n : ℕ) → IsRightReply m (Settle w) (Finished n)
    → (l : Held) × (slice_get m.workers w ≡ Some (Some l))
end_holds m w n a = settle_holds m w (Finished n) (λ k e. cc) a

settle_is : (m : State Blank) (w : ℕ) (l : Held) (x : StreamState Blank) (r : Reply Blank Blank)
    → slice_get m.workers w ≡ Some (Some l) → slice_get m.streams l.stream ≡ Some x → IsRightReply m (Settle w) r
    → r ≡ settle_reply x
settle_is m w l x r mine e a = let b = rw mine at a in rw e at b

pub back_facts : (m : State Blank) (w : ℕ) (l : Held) (x : StreamState Blank) → slice_get m.workers w ≡ Some (Some l)
    → slice_get m.streams l.stream ≡ Some x → IsRightReply m (Settle w) Returned → x.done ≢ steps x.spec
back_facts m w l x mine e a =
    tested_ne x.done (steps x.spec)
    (returned_test Blank Blank (nat_eq x.done (steps x.spec)) x.finished (settle_is m w l x Returned mine e a))

pub end_facts : (m : State Blank) (w n : ℕ) (l : Held) (x : StreamState Blank) → slice_get m.workers w ≡ Some (Some l)
    → slice_get m.streams l.stream ≡ Some x → IsRightReply m (Settle w) (Finished n)
    → (x.done ≡ steps x.spec) × (n ≡ x.finished)
end_facts m w n l x mine e a =
    let t = finished_test Blank Blank (nat_eq x.done (steps x.spec)) x.finished n
    (settle_is m w l x (Finished n) mine e a) in
    (tested_eq x.done (steps x.spec) t.0, t.1)

settle_right : (m : State Blank) (w : ℕ) (l : Held) (x : StreamState Blank) (r : Reply Blank Blank)
    → slice_get m.workers w ≡ Some (Some l) → slice_get m.streams l.stream ≡ Some x → r ≡ settle_reply x
    → IsRightReply m (Settle w) r
settle_right m w l x r mine e h = rw mine (and_some (slice_get m.streams l.stream) _ x e h)

pub some_unfinished : (m : State Blank) (w : ℕ) (l : Held) (x : StreamState Blank) → Reached m
    → slice_get m.workers w ≡ Some (Some l) → slice_get m.streams l.stream ≡ Some x → x.finished < x.accepted
some_unfinished m w l x h mine e =
    let all = reached_sound m h in
    let out : out_count x.holder ≡ 1 = ap out_count (lease_of m w l x all mine e).holder in
    omega (arith, (all.streams l.stream x e).finished, out)

pub back_went : (m : State Blank) (w : ℕ) (l : Held) (x y : StreamState Blank) → Reached m
    → slice_get m.workers w ≡ Some (Some l) → slice_get m.streams l.stream ≡ Some x → x.done ≢ steps x.spec
    → y ≡ did x Back
    → Went m (Settle w) Returned
    (state m.clock m.quantum (slice_set m.streams l.stream y) (slice_set m.workers w None))
back_went m w l x y h mine e left same =
    let r : Reply Blank Blank = Returned in
    let told = back_reply x left in
    went m _ (Settle w) r h (settle_right m w l x r mine e told)
    (ap (λ (y : StreamState Blank). state m.clock m.quantum (slice_set m.streams l.stream y)
    (slice_set m.workers w None)) same
    ∙ after_settle Blank m w l x r told mine e)

pub end_went : (m : State Blank) (w n : ℕ) (l : Held) (x y : StreamState Blank) → Reached m
    → slice_get m.workers w ≡ Some (Some l) → slice_get m.streams l.stream ≡ Some x → x.done ≡ steps x.spec
    → n ≡ x.finished → y ≡ did x Ended
    → Went m (Settle w) (Finished n)
    (state m.clock m.quantum (slice_set m.streams l.stream y) (slice_set m.workers w None))
end_went m w n l x y h mine e all number same =
    let r : Reply Blank Blank = Finished n in
    let told = end_reply x n all number in
    went m _ (Settle w) r h (settle_right m w l x r mine e told)
    (ap (λ (y : StreamState Blank). state m.clock m.quantum (slice_set m.streams l.stream y)
    (slice_set m.workers w None)) same
    ∙ after_settle Blank m w l x r told mine e)

-- why a lease isn't given back unfinished
pub back_wrong : (m k : State Blank) (w : ℕ) (l : Held) (x : StreamState Blank) → Reached m → m ≡ k
    → slice_get k.workers w ≡ Some (Some l) → x ≡ get_or m.streams l.stream x
    → true ≡ nat_eq x.done (steps x.spec) → Checks k (Settle w) Returned false k
back_wrong m k w l x h v mine at t =
    let own = held_in m k w l v mine in
    checks_wrong k (Settle w) Returned (λ a.
    back_facts m w l x own (its_row m w l x h own at) (right_in (Settle w) Returned v a)
    (tested_eq x.done (steps x.spec) (sym t)))

pub is_left : (m : State Blank) (l : Held) (x y : StreamState Blank) → slice_get m.streams l.stream ≡ Some x
    → slice_get m.streams l.stream ≡ Some y → false ≡ nat_eq x.done (steps x.spec) → y.done ≢ steps y.spec
is_left m l x y e f t =
    let same : x ≡ y = one_item m.streams l.stream l.stream x y refl e f in
    subst (λ (y : StreamState Blank). y.done ≢ steps y.spec) same (tested_ne x.done (steps x.spec) (sym t))

-- what is said of the frame that ends
pub ends_are : (m k : State Blank) (s n : ℕ) (x : StreamState Blank) → m ≡ k → Ends k s n
    → slice_get m.streams s ≡ Some x → (x.done ≡ steps x.spec) × (n ≡ x.finished)
ends_are m k s n x v ends e =
    let a : Ends m s n = subst (λ (m : State Blank). Ends m s n) (sym v) ends in
    rw e at a
