-- Streams that are ready, and what the earliest deadline says of them.
use Rattle.std.proofs.Common.{ℕ, ◌-◌, ◌≡◌, ◌≤◌, ◌<◌, Bool, true, false, ◌&&◌, nat_lt, Option, Some, None}
use Rattle.std.proofs.Common.{is_none, slice_get, if◌then◌else◌, refl, sym, ◌∙◌, ap, subst, arith}
use Rattle.std.proofs.lemmas.Bool.Decides.{nat_tests}
use Rattle.std.proofs.lemmas.Option.{slice_get-map}
use Rattle.edf_pool.specs.Earliest.{IsEarliest}
use Rattle.serve_core.specs.States.{State, StreamState, deadlines, is_ready, ready_deadline}

-- what it takes to be ready
abbrev pub IsReady : {F : Type 0} → StreamState F → Type 0
IsReady x = (x.finished < x.accepted) × (x.holder ≡ None) × (x.finished - x.collected < x.spec.outbox)

both : (a b : Bool) → (a && b) ≡ true → (a ≡ true) × (b ≡ true)
both true true h = (refl, refl)
both true false h = absurd (cc)
both false b h = absurd (cc)

none_is : (o : Option ℕ) → is_none o ≡ true → o ≡ None
none_is None h = refl
none_is (Some w) h = absurd (cc)

less_is : (a b : ℕ) → nat_lt a b ≡ true → a < b
less_is a b h = grind (arith, nat_tests)

less_test : (a b : ℕ) → a < b → nat_lt a b ≡ true
less_test a b h = grind (arith, nat_tests)

shown_or : (b : Bool) (d e : ℕ) → (if b then Some d else None) ≡ Some e → (b ≡ true) × (e ≡ d)
shown_or true d e h = (refl, cc)
shown_or false d e h = absurd (cc)

some_same : {X : Type 0} (x y : X) → Some x ≡ Some y → x ≡ y
some_same x y e = cc

module _ {F : Type 0} where
  pub ready_facts : (x : StreamState F) → is_ready x ≡ true → IsReady x
  ready_facts x h =
      let one = both (nat_lt x.finished x.accepted) _ h in
      let two = both (is_none x.holder) _ one.1 in (
        less_is x.finished x.accepted one.0,
        none_is x.holder two.0,
        less_is
            (x.finished - x.collected) x.spec.outbox two.1,
      )

  pub ready_test : (x : StreamState F) → IsReady x → is_ready x ≡ true
  ready_test x h =
      rw (less_test x.finished x.accepted h.0, h.1, less_test (x.finished - x.collected) x.spec.outbox h.2)
      refl

  pub deadline_at : (m : State F) (s : ℕ) (x : StreamState F) → slice_get m.streams s ≡ Some x
      → slice_get (deadlines m) s ≡ Some (ready_deadline x)
  deadline_at m s x e = slice_get-map ready_deadline m.streams s ∙ rw e refl

  pub ready_shown : (x : StreamState F) → is_ready x ≡ true → ready_deadline x ≡ Some x.account.deadline
  ready_shown x h = rw h refl

  -- the stream with the earliest deadline is ready, and no ready one has an earlier deadline
  pub earliest_shown : (m : State F) (s : ℕ) (x : StreamState F) (h : IsEarliest (deadlines m) s)
      → slice_get m.streams s ≡ Some x → (is_ready x ≡ true) × (h.deadline ≡ x.account.deadline)
  earliest_shown m s x h e =
      let shown : Some (ready_deadline x) ≡ Some (Some h.deadline) = sym (deadline_at m s x e) ∙ h.ready in
      shown_or (is_ready x) x.account.deadline h.deadline
      (some_same (ready_deadline x) (Some h.deadline) shown)

  pub earliest_ready : (m : State F) (s : ℕ) (x : StreamState F) → IsEarliest (deadlines m) s
      → slice_get m.streams s ≡ Some x → IsReady x
  earliest_ready m s x h e = ready_facts x (earliest_shown m s x h e).0

  pub earliest_due : (m : State F) (s u : ℕ) (x y : StreamState F) → IsEarliest (deadlines m) s
      → slice_get m.streams s ≡ Some x → slice_get m.streams u ≡ Some y → is_ready y ≡ true
      → x.account.deadline ≤ y.account.deadline
  earliest_due m s u x y h e f ready =
      let shown = deadline_at m u y f ∙ ap Some (ready_shown y ready) in
      subst (λ (d : ℕ). d ≤ y.account.deadline) (earliest_shown m s x h e).1
      (h.earliest u y.account.deadline shown)
