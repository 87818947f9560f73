-- What `after` makes of a state, event by event.
use Rattle.std.proofs.Common.{ℕ, ◌≡◌, Option, Some, None, Bool, true, false, nat_eq, slice_get, slice_set}
use Rattle.std.proofs.Common.{List, [], ◌∷◌, ◌++◌}
use Rattle.std.proofs.Common.{refl, sym, ◌∙◌, ap, if◌then◌else◌}
use Rattle.serve_core.specs.declared.held.Held.{Held}
use Rattle.serve_core.specs.declared.refusal.Refusal.{Refusal}
use Rattle.serve_core.specs.Counts.{Deed, Lent, Worked, came, has_stream, held_after_band, held_after_lease}
use Rattle.serve_core.specs.Counts.{held_after_settle, one_more_used, settled, shut, taken}
use Rattle.serve_core.specs.Events.{Admit, Admitted, Arrive, Band, Close, Collect, Event, Finished, GivenBack}
use Rattle.serve_core.specs.Events.{Lease, Leased, Refused, Reply, Returned, Settle, SpecBack, Stepped, Tick}
use Rattle.serve_core.specs.Events.{Ticked}
use Rattle.serve_core.specs.Laws.{RefusedLaw}
use Rattle.serve_core.specs.Rules.{settle_reply}
use Rattle.serve_core.specs.Setup.{StreamSpec, steps}
use Rattle.serve_core.specs.States.{State, StreamState, after, did, did_any, held_at, map_at, new_stream}
use Rattle.serve_core.proofs.Events.Steps.{held_at_is, new_lease, one_lease, one_stream, quiet_streams}
use Rattle.serve_core.proofs.Events.Steps.{quiet_workers, state, state_is}
use Rattle.serve_core.proofs.Items.Lists.{map_at_same}

settled_gone : (F G : Type 0) (n : ℕ) (l : Held) (b : Bool)
    → let r : Reply F G = if b then Finished n else Returned in held_after_settle (Some l) r ≡ None
settled_gone F G n l true = refl
settled_gone F G n l false = refl

module _ {F : Type 0} where
  leased_stream : (o : Option (Deed F)) (w : ℕ) (l : Held) (m : State F) (x : StreamState F)
      → slice_get m.workers w ≡ Some (Some l) → slice_get m.streams l.stream ≡ Some x
      → slice_set m.streams l.stream (did_any x o)
      ≡ map_at 0 (λ t y. did_any y (if has_stream t (held_at m.workers w) then o else None)) m.streams
  leased_stream o w l m x e f =
      rw (held_at_is m.workers w (Some l) e) (sym (one_stream o l.stream m.streams x f))

module _ {F : Type 0} (G : Type 0) where
  -- a refusal changes nothing
  pub after_refused : (m : State F) (e : Event F) (k : Refusal) → let r : Reply F G = Refused k in
      m ≡ after m e r
  after_refused m (Arrive s f) k =
      state_is m.clock m.quantum _ _ _ _ (quiet_streams (λ t. nat_eq s t) m.streams)
      (sym (map_at_same 0 m.workers))
  after_refused m (Lease w) k =
      state_is m.clock m.quantum _ _ _ _ (sym (map_at_same 0 m.streams))
      (quiet_workers (λ v. nat_eq w v) m.workers)
  after_refused m (Band w) k =
      state_is m.clock m.quantum _ _ _ _ (quiet_streams (λ t. has_stream t (held_at m.workers w)) m.streams)
      (quiet_workers (λ v. nat_eq w v) m.workers)
  after_refused m (Settle w) k =
      state_is m.clock m.quantum _ _ _ _ (quiet_streams (λ t. has_stream t (held_at m.workers w)) m.streams)
      (quiet_workers (λ v. nat_eq w v) m.workers)
  after_refused m (Tick to) k =
      state_is m.clock m.quantum _ _ _ _ (sym (map_at_same 0 m.streams)) (sym (map_at_same 0 m.workers))
  after_refused m (Close s) k =
      state_is m.clock m.quantum _ _ _ _ (quiet_streams (λ t. nat_eq s t) m.streams)
      (sym (map_at_same 0 m.workers))
  after_refused m (Collect s) k =
      state_is m.clock m.quantum _ _ _ _ (quiet_streams (λ t. nat_eq s t) m.streams)
      (sym (map_at_same 0 m.workers))
  after_refused m (Admit spec) k =
      state_is m.clock m.quantum _ _ _ _ (sym (map_at_same 0 m.streams)) (sym (map_at_same 0 m.workers))

  pub after_given_back : (m : State F) (s : ℕ) (k : Refusal) (f : F)
      → let r : Reply F G = GivenBack k f in m ≡ after m (Arrive s f) r
  after_given_back m s k f =
      state_is m.clock m.quantum _ _ _ _ (quiet_streams (λ t. nat_eq s t) m.streams)
      (sym (map_at_same 0 m.workers))

  pub after_spec_back : (m : State F) (spec : StreamSpec) (k : Refusal)
      → let r : Reply F G = SpecBack k spec in m ≡ after m (Admit spec) r
  after_spec_back m spec k =
      state_is m.clock m.quantum _ _ _ _ (sym (map_at_same 0 m.streams)) (sym (map_at_same 0 m.workers))

  -- one stream more
  pub after_admit : (m : State F) (spec : StreamSpec) (s : ℕ)
      → let r : Reply F G = Admitted s in
      state m.clock m.quantum (m.streams ++ new_stream spec ∷ []) m.workers ≡ after m (Admit spec) r
  after_admit m spec s =
      state_is m.clock m.quantum _ _ _ _
      (ap (λ (xs : List (StreamState F)). xs ++ new_stream spec ∷ []) (sym (map_at_same 0 m.streams)))
      (sym (map_at_same 0 m.workers))

  pub after_tick : (m : State F) (to : ℕ)
      → let r : Reply F G = Ticked in state to m.quantum m.streams m.workers ≡ after m (Tick to) r
  after_tick m to = state_is to m.quantum _ _ _ _ (sym (map_at_same 0 m.streams))
      (sym (map_at_same 0 m.workers))

  -- one stream changes
  pub after_arrive : (m : State F) (s : ℕ) (f : F) (r : Reply F G) (x : StreamState F)
      → slice_get m.streams s ≡ Some x
      → state m.clock m.quantum (slice_set m.streams s (did_any x (came m.clock f r))) m.workers ≡ after m
      (Arrive s f) r
  after_arrive m s f r x e =
      state_is m.clock m.quantum _ _ _ _ (sym (one_stream (came m.clock f r) s m.streams x e))
      (sym (map_at_same 0 m.workers))

  pub after_close : (m : State F) (s : ℕ) (r : Reply F G) (x : StreamState F) → slice_get m.streams s ≡ Some x
      → state m.clock m.quantum (slice_set m.streams s (did_any x (shut r))) m.workers ≡ after m (Close s) r
  after_close m s r x e =
      state_is m.clock m.quantum _ _ _ _ (sym (one_stream (shut r) s m.streams x e))
      (sym (map_at_same 0 m.workers))

  pub after_collect : (m : State F) (s : ℕ) (r : Reply F G) (x : StreamState F)
      → slice_get m.streams s ≡ Some x
      → state m.clock m.quantum (slice_set m.streams s (did_any x (taken r))) m.workers ≡ after m
      (Collect s) r
  after_collect m s r x e =
      state_is m.clock m.quantum _ _ _ _ (sym (one_stream (taken r) s m.streams x e))
      (sym (map_at_same 0 m.workers))

  -- one stream and one lease change
  pub after_lease : (m : State F) (w s n g : ℕ) (x : StreamState F) → slice_get m.workers w ≡ Some None
      → slice_get m.streams s ≡ Some x
      → let r : Reply F G = Leased s n g in
      state m.clock m.quantum (slice_set m.streams s (did x (Lent w)))
      (slice_set m.workers w (Some (new_lease s n g)))
      ≡ after m (Lease w) r
  after_lease m w s n g x e f =
      let r : Reply F G = Leased s n g in
      state_is m.clock m.quantum _ _ _ _ (sym (one_stream (Some (Lent w)) s m.streams x f))
      (sym (one_lease (λ h. held_after_lease h r) w m.workers None e))

  pub after_band : (m : State F) (w : ℕ) (l k : Held) (x : StreamState F)
      → slice_get m.workers w ≡ Some (Some l)
      → slice_get m.streams l.stream ≡ Some x → one_more_used (Some l) ≡ Some k
      → let r : Reply F G = Stepped in
      state m.clock m.quantum (slice_set m.streams l.stream (did x Worked)) (slice_set m.workers w (Some k))
      ≡ after m (Band w) r
  after_band m w l k x e f more =
      let r : Reply F G = Stepped in
      state_is m.clock m.quantum _ _ _ _ (leased_stream (Some Worked) w l m x e f)
      (ap (slice_set m.workers w) (sym more) ∙ sym (one_lease (λ h. held_after_band h r) w m.workers
      (Some l) e))

  pub after_settle : (m : State F) (w : ℕ) (l : Held) (x : StreamState F) (r : Reply F G) → r ≡ settle_reply x
      → slice_get m.workers w ≡ Some (Some l) → slice_get m.streams l.stream ≡ Some x
      → state m.clock m.quantum (slice_set m.streams l.stream (did_any x (settled r)))
      (slice_set m.workers w None)
      ≡ after m (Settle w) r
  after_settle m w l x r s e f =
      let gone : held_after_settle (Some l) r ≡ None =
      rw s (settled_gone F G x.finished l (nat_eq x.done (steps x.spec))) in
      let lease = one_lease (λ h. held_after_settle h r) w m.workers (Some l) e
      ∙ ap (slice_set m.workers w) gone in
      state_is m.clock m.quantum _ _ _ _ (leased_stream (settled r) w l m x e f) (sym lease)

  pub refusals_leave : RefusedLaw F G
  refusals_leave m e s f spec k =
      (sym (after_refused m e k), sym (after_given_back m s k f), sym (after_spec_back m spec k))
