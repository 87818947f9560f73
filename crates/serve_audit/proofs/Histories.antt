-- What entries come to, and what is known of a list of them.
use Rattle.std.proofs.Common.{ℕ, zero, suc, ◌+◌, ◌≡◌, ◌≢◌, ◌≤◌, ◌<◌, ◌⊎◌, inl, inr, Bool, true, false, List, [], ◌∷◌, ◌++◌}
use Rattle.std.proofs.Common.{drop, length, reverse, take, Option, Some, None, IfSome, IsSomeAnd, slice_get, nat_eq}
use Rattle.std.proofs.Common.{refl, sym, ◌∙◌, ap, subst, arith}
use Rattle.std.specs.Option.{option_map}
use Rattle.std.proofs.lemmas.List.{reverse-append, take-append-drop, take_more}
use Rattle.std.proofs.Common.{get_or}
use Rattle.std.proofs.lemmas.Option.{get_or_from_slice_get, slice_get-get_or, slice_get_within}
use Rattle.serve_core.specs.declared.counts.Counts.{Counts}
use Rattle.serve_core.specs.declared.held.Held.{Held}
use Rattle.serve_core.specs.AtOnce.{bands, bands_settled}
use Rattle.serve_core.specs.Bare.{Blank, measures_any, is_any_image}
use Rattle.serve_core.specs.Desk.{one, settlement}
use Rattle.serve_core.specs.Events.{Accepted, Admit, Admitted, Arrive, Band, Close, Closing, Collect, Event, Finished}
use Rattle.serve_core.specs.Events.{Image, Lease, Leased, Reply, Returned, Settle, Start, Stepped, Then, Tick, Ticked}
use Rattle.serve_core.specs.Events.{Transcript, joined}
use Rattle.serve_core.specs.Leads.{IsLegalFrom, Leads, state_from}
use Rattle.serve_core.specs.Schedule.{counts_of}
use Rattle.serve_core.specs.Setup.{StreamSpec}
use Rattle.serve_core.specs.States.{State, StreamState, after, held_at}
use Rattle.serve_core.specs.Tally.{Checks, IsRightReply}
use Rattle.serve_core.proofs.Calls.Tallies.{back_holds, band_facts, end_holds}
use Rattle.serve_core.proofs.Events.Steps.{held_at_is}
use Rattle.serve_core.proofs.Items.Options.{and_some, some_and}
use Rattle.serve_core.proofs.Transcripts.Openings.{joined_state}
use Rattle.serve_hub.specs.declared.entry.Act.{Act}
use Rattle.serve_hub.specs.declared.entry.Act.TheVariants as acts
use Rattle.serve_hub.specs.declared.entry.Entry.{Entry}
use Rattle.serve_hub.specs.declared.entry.Seat.{Seat}
use Rattle.serve_hub.specs.declared.entry.Seat.TheVariants as seats
use Rattle.serve_hub.specs.Journal.{AreEntries, IsEntry, IsJournal, admission_of, entry_of, events_of, number_of, ticks}
use Rattle.serve_hub.specs.Journal.{transcript_of}
use Rattle.serve_hub.proofs.Journals.{one_more_entry}
use Rattle.serve_audit.specs.Audit.{Checked, Follows, FollowsIf, IsFirstWrong, IsHistory, IsLegal, IsRightEntry}

-- bands
same_or_less : (k n : ℕ) → suc k ≤ suc n → (k ≡ n) ⊎ (suc k ≤ n)
same_or_less k n l = grind arith

fewer_bands : (m : State Blank) (w k n : ℕ) → k ≤ n → IsLegal m (bands w n) → IsLegal m (bands w k)
fewer_bands m w zero n l h = tt
fewer_bands m w (suc k) zero l h = absurd (omega (arith, l))
fewer_bands m w (suc k) (suc n) l h =
    elim (same_or_less k n l) [
      | inl e ↦ subst (λ (i : ℕ). IsLegal m (bands w (suc i))) (sym e) h
      | inr less ↦ fewer_bands m w (suc k) n less h.0
    ]

pub none_done : (m : State Blank) (w : ℕ) → Follows m (bands w 0) true m
none_done m w = record { right = (λ t. tt, λ l. refl); leads = λ t. refl }

pub more_done : (m k n : State Blank) (w i j : ℕ) → j ≡ suc i → Follows m (bands w i) true k
    → Checks k (Band w) Stepped true n → Follows m (bands w j) true n
more_done m k n w i j e h g =
    let r : Reply Blank Blank = Stepped in
    let here = h.leads refl in
    subst (λ (j : ℕ). Follows m (bands w j) true n) (sym e) (record {
      right = (
        λ t. (h.right.0 refl, subst (λ (k : State Blank). IsRightReply k (Band w) r) (sym here) (g.right.0 refl)),
        λ l. refl,
      );
      leads = λ t. ap (λ (k : State Blank). after k (Band w) r) here ∙ sym (g.on refl);
    })

pub band_stuck : (m k n : State Blank) (w i count : ℕ) → i < count → Follows m (bands w i) true k
    → Checks k (Band w) Stepped false n → Follows m (bands w count) false n
band_stuck m k n w i count l h g =
    let r : Reply Blank Blank = Stepped in
    record {
      right = (
        λ t. absurd (cc),
        λ all.
            let one = fewer_bands m w (suc i) count (omega (arith, l)) all in
            let never = g.right.1 (subst (λ (k : State Blank). IsRightReply k (Band w) r) (h.leads refl) one.1) in
            absurd (cc),
      );
      leads = λ t. absurd (cc);
    }

-- settlements
held_some : (ws : List (Option Held)) (w : ℕ) (l : Held) → held_at ws w ≡ Some l → slice_get ws w ≡ Some (Some l)
held_some [] w l e = absurd (cc)
held_some (h ∷ hs) zero l e = ap Some e
held_some (h ∷ hs) (suc w) l e = held_some hs w l e

no_number : (b : Bool) (o : Option Held) → o ≡ None → number_of b o ≡ None
no_number true o e = rw e refl
no_number false o e = refl

none_held : (o : Option Held) → ((l : Held) → o ≡ Some l → ⊥) → o ≡ None
none_held None h = refl
none_held (Some l) h = absurd (h l refl)

-- without a lease nothing is settled
no_lease : (m : State Blank) (w k : ℕ) → ((l : Held) → slice_get m.workers w ≢ Some (Some l))
    → IsLegal m (bands_settled w k Returned) → ⊥
no_lease m w zero none h = let l = back_holds m w h.1 in none l.0 l.1
no_lease m w (suc k) none h =
    let one = fewer_bands m w 1 (suc k) (omega arith) h.0 in
    let l = band_facts m w one.1 in
    none l.0 l.1

pub settle_none : (m n : State Blank) (w k : ℕ) (b : Bool) → ((l : Held) → slice_get m.workers w ≢ Some (Some l))
    → Follows m (settlement w k (number_of b (held_at m.workers w))) false n
settle_none m n w k b none =
    let gone = none_held (held_at m.workers w) (λ l e. none l (held_some m.workers w l e)) in
    rw (no_number b (held_at m.workers w) gone)
    (record { right = (λ t. absurd (cc), λ h. absurd (no_lease m w k none h)); leads = λ t. absurd (cc) })

number_is : (b : Bool) (m : State Blank) (w : ℕ) (l : Held) → slice_get m.workers w ≡ Some (Some l)
    → number_of b (held_at m.workers w) ≡ number_of b (Some l)
number_is b m w l e = ap (number_of b) (held_at_is m.workers w (Some l) e)

settled_by : (m : State Blank) (w k : ℕ) (o : Option ℕ) → IsLegal m (settlement w k o) → IsLegal m (bands w k)
settled_by m w k None h = h.0
settled_by m w k (Some number) h = h.0

pub settle_stuck : (m n : State Blank) (w k : ℕ) (o : Option ℕ) → Follows m (bands w k) false n
    → Follows m (settlement w k o) false n
settle_stuck m n w k o h = record {
  right = (λ t. absurd (cc), λ all. let never = h.right.1 (settled_by m w k o all) in absurd (cc));
  leads = λ t. absurd (cc);
}

settles : (m k n : State Blank) (w i : ℕ) (r : Reply Blank Blank) (told : Bool) → Follows m (bands w i) true k
    → Checks k (Settle w) r told n → Follows m (bands_settled w i r) told n
settles m k n w i r told h g =
    let here = h.leads refl in
    record {
      right = (
        λ t. (h.right.0 refl, subst (λ (k : State Blank). IsRightReply k (Settle w) r) (sym here) (g.right.0 t)),
        λ all. g.right.1 (subst (λ (k : State Blank). IsRightReply k (Settle w) r) here all.1),
      );
      leads = λ t. ap (λ (k : State Blank). after k (Settle w) r) here ∙ sym (g.on t);
    }

pub finish_follows : (m k n : State Blank) (w i : ℕ) (l : Held) (told : Bool) → slice_get m.workers w ≡ Some (Some l)
    → Follows m (bands w i) true k → Checks k (Settle w) (Finished l.number) told n
    → Follows m (settlement w i (number_of true (held_at m.workers w))) told n
finish_follows m k n w i l told mine h g =
    rw (number_is true m w l mine) (settles m k n w i (Finished l.number) told h g)

-- what was legal before the last entry
legal_parts : (m : State Blank) (p q : Transcript Blank Blank) → IsLegal m (joined p q)
    → IsLegal m p × IsLegal (state_from m p) q
legal_parts m p Start l = (l, tt)
legal_parts m p (Then q e r) l =
    let parts = legal_parts m p q l.0 in
    (parts.0, (parts.1, subst (λ (n : State Blank). IsRightReply n e r) (joined_state m p q) l.1))

pub last_right : (specs : List StreamSpec) (o n : State Blank) (e : Entry) (past : List Entry)
    → IsJournal specs o (e ∷ past) n
    → let m = state_from o (transcript_of specs o past) in IsJournal specs o past m × IsRightEntry specs m e
last_right specs o n e past j =
    let p = transcript_of specs o past in
    let m = state_from o p in
    let parts = legal_parts o p (events_of specs m e.seat e.act) j.leads.0 in
    (record { entries = j.entries.0; leads = (parts.0, refl) }, (j.entries.1, parts.1))

pub one_end : (specs : List StreamSpec) (o m n : State Blank) (past : List Entry) → IsJournal specs o past m
    → IsJournal specs o past n → m ≡ n
one_end specs o m n past j k = sym j.leads.1 ∙ k.leads.1

-- one entry more
pub one_more : (specs : List StreamSpec) (o m n : State Blank) (past : List Entry) (e : Entry) → IsJournal specs o past m
    → Checked specs m e true n → IsJournal specs o (e ∷ past) n
one_more specs o m n past e j h =
    let is = h.right.0 refl in
    one_more_entry specs o m n past e.seat e.act j is.0 (is.1, h.leads refl)

-- a list with a wrong entry is never history
never_right : (specs : List StreamSpec) (o m n : State Blank) (e : Entry) (past later : List Entry)
    → IsJournal specs o past m → (IsRightEntry specs m e → ⊥) → IsJournal specs o (later ++ e ∷ past) n → ⊥
never_right specs o m n e past [] j wrong k =
    let last = last_right specs o n e past k in
    wrong (subst (λ (m : State Blank). IsRightEntry specs m e) (one_end specs o _ m past last.0 j) last.1)
never_right specs o m n e past (f ∷ later) j wrong k =
    let last = last_right specs o n f (later ++ e ∷ past) k in
    never_right specs o m (state_from o (transcript_of specs o (later ++ e ∷ past))) e past later j wrong last.0

taken_more : (entries : List Entry) (i : ℕ) (e : Entry) → slice_get entries i ≡ Some e
    → take (i + 1) entries ≡ take i entries ++ e ∷ []
taken_more entries i e here =
    take_more entries i e (slice_get_within entries i e here)
    ∙ ap (λ (y : Entry). take i entries ++ y ∷ []) (get_or_from_slice_get entries i e e here)

pub reversed_more : (entries : List Entry) (i : ℕ) (e : Entry) → slice_get entries i ≡ Some e
    → reverse (take (i + 1) entries) ≡ e ∷ reverse (take i entries)
reversed_more entries i e here =
    ap reverse (taken_more entries i e here) ∙ reverse-append (take i entries) (e ∷ [])

pub first_wrong : (specs : List StreamSpec) (o m n : State Blank) (entries : List Entry) (i : ℕ) (d : Entry) (b : Bool)
    → b ≡ false → i < length entries → IsJournal specs o (reverse (take i entries)) m
    → Checked specs m (get_or entries i d) b n → IsFirstWrong specs o entries i
first_wrong specs o m n entries i d b e l j h = record {
  state = m;
  before = j;
  entry = get_or entries i d;
  here = slice_get-get_or entries i d l;
  wrong = λ r. let never = h.right.1 r in absurd (cc);
}

pub all_more : (specs : List StreamSpec) (o m n : State Blank) (entries : List Entry) (i : ℕ) (d : Entry) (b : Bool)
    → b ≡ true → i < length entries → IsJournal specs o (reverse (take i entries)) m
    → Checked specs m (get_or entries i d) b n → IsJournal specs o (reverse (take (i + 1) entries)) n
all_more specs o m n entries i d b e l j h =
    let right : Checked specs m (get_or entries i d) true n =
    subst (λ (b : Bool). Checked specs m (get_or entries i d) b n) e h in
    rw (reversed_more entries i (get_or entries i d) (slice_get-get_or entries i d l))
    (one_more specs o m n (reverse (take i entries)) (get_or entries i d) j right)

-- the seat of an entry
pub seated : (seat : Seat) (e : Entry) → e.seat ≡ seat → entry_of seat e.act ≡ e
seated seat e h = ap (λ (s : Seat). entry_of s e.act) (sym h)

pub wrong_history : (specs : List StreamSpec) (o : State Blank) (entries : List Entry) (i : ℕ)
    → IsFirstWrong specs o entries i → IsHistory specs o entries → ⊥
wrong_history specs o entries i w h =
    let later = reverse (drop (i + 1) entries) in
    let parts : reverse entries ≡ later ++ w.entry ∷ reverse (take i entries) =
    sym (ap reverse (take-append-drop (i + 1) entries))
    ∙ reverse-append (take (i + 1) entries) (drop (i + 1) entries)
    ∙ ap (λ (front : List Entry). later ++ front) (reversed_more entries i w.entry w.here) in
    never_right specs o w.state h.0 w.entry (reverse (take i entries)) later w.before w.wrong
    (subst (λ (past : List Entry). IsJournal specs o past h.0) parts h.1)
