-- Bands that are charged at once, where their lease is settled.
use Rattle.std.proofs.Common.{ℕ, zero, suc, ◌+◌, ◌≡◌, ◌≢◌, List, [], ◌∷◌, take, drop, Option, Some, None}
use Rattle.std.proofs.Common.{slice_get, slice_set, refl, sym, ◌∙◌, ap, subst, arith, Bool, false, true, nat_eq}
use Rattle.std.proofs.lemmas.Bool.Decides.{nat_tests}
use Rattle.std.proofs.lemmas.List.{set-set, get_or-drop}
use Rattle.std.proofs.lemmas.Option.{slice_get_within}
use Rattle.cbs_account.specs.Balance.{Balance}
use Rattle.cbs_account.specs.Rules.{after_unit, after_units}
use Rattle.serve_core.specs.declared.held.Held.{Held}
use Rattle.serve_core.specs.AtOnce.{AtOnceLaw, SettledLaw, at_once, cost_of_next, with_used}
use Rattle.serve_core.specs.AtOnce.{worked_at_once}
use Rattle.serve_core.specs.Counts.{Worked}
use Rattle.serve_core.specs.Events.{Band, Reply, Settle, Stepped}
use Rattle.serve_core.specs.Grants.{cost_of_band, cost_of_first}
use Rattle.serve_core.specs.Rules.{Allows, settle_reply}
use Rattle.serve_core.specs.Setup.{StreamSpec, costs}
use Rattle.serve_core.specs.States.{State, StreamState, after, did}
use Rattle.serve_core.proofs.Bands.Costs.{sum_cons}
use Rattle.serve_core.proofs.Events.Changes.{after_band, after_settle}
use Rattle.serve_core.proofs.Items.Lists.{slice_get_set_same}
use Rattle.serve_core.proofs.Items.Options.{and_some}

set_same : {X : Type 0} (xs : List X) (i : ℕ) (x : X) → slice_get xs i ≡ Some x → slice_set xs i x ≡ xs
set_same [] i x e = refl
set_same (y ∷ xs) zero x e = cc
set_same (y ∷ xs) (suc i) x e = ap (λ ys. y ∷ ys) (set_same xs i x e)

-- one more of the first bands, whether or not there is one
first_more : (k : ℕ) (costs : List ℕ) → cost_of_first (suc k) costs
    ≡ cost_of_band k costs + cost_of_first k costs
first_more zero [] = refl
first_more (suc k) [] = refl
first_more zero (c ∷ costs) = sum_cons c [] ∙ omega arith
first_more (suc k) (c ∷ costs) =
    omega (arith, first_more k costs, sum_cons c (take (suc k) costs), sum_cons c (take k costs))

units_more : (k n : ℕ) (b : Balance) → after_units (k + n) b ≡ after_units k (after_units n b)
units_more zero n b = rw (let e : 0 + n ≡ n = omega arith in e) refl
units_more (suc k) n b =
    rw (let e : suc k + n ≡ suc (k + n) = omega arith in e) (ap after_unit (units_more k n b))

pub test_no : (a b : ℕ) → a ≢ b → nat_eq a b ≡ false
test_no a b e = grind (arith, nat_tests)

pub test_yes : (a b : ℕ) → a ≡ b → nat_eq a b ≡ true
test_yes a b e = grind (arith, nat_tests)

pub used_more : (l : Held) (a b : ℕ) → a ≡ b
    → let v : Held = record l { used = a } in let w : Held = record l { used = b } in v ≡ w
used_more l a b e = cc

module _ {F : Type 0} where
  pub next_more : (k : ℕ) (x : StreamState F)
      → cost_of_next (suc k) x ≡ cost_of_band (x.done + k) (costs x.spec) + cost_of_next k x
  next_more k x =
      first_more k (drop x.done (costs x.spec))
      ∙ ap (λ (n : ℕ). n + cost_of_next k x) (get_or-drop x.done (costs x.spec) k 0)

  with_charge : (x : StreamState F) (c c' d d' : ℕ) (a a' : Balance) → c ≡ c' → d ≡ d' → a ≡ a'
      → let v : StreamState F = record x { charged = c; done = d; account = a } in
      let w : StreamState F = record x { charged = c'; done = d'; account = a' } in v ≡ w
  with_charge x c c' d d' a a' e f g = cc

  -- no band, and one band more
  none_at_once : (x : StreamState F) → worked_at_once 0 x ≡ x
  none_at_once x =
      with_charge x (x.charged + 0) x.charged (x.done + 0) x.done x.account x.account (omega arith)
      (omega arith) refl

  more_at_once : (k : ℕ) (x : StreamState F) → did (worked_at_once k x) Worked ≡ worked_at_once (suc k) x
  more_at_once k x =
      let next = next_more k x in
      let one = cost_of_band (x.done + k) (costs x.spec) in
      with_charge x _ _ _ _ _ _ (omega (arith, next)) (omega arith)
      (sym (ap (λ (n : ℕ). after_units n x.account) next ∙ units_more one (cost_of_next k x) x.account))

  same_state : (m : State F) (xs ys : List (StreamState F)) (hs ks : List (Option Held)) → xs ≡ ys → hs ≡ ks
      → let v : State F = record m { streams = xs; workers = hs } in
      let w : State F = record m { streams = ys; workers = ks } in v ≡ w
  same_state m xs ys hs ks e f = cc

  at_once_none : (m : State F) (w : ℕ) (l : Held) (x : StreamState F) → slice_get m.workers w ≡ Some (Some l)
      → slice_get m.streams l.stream ≡ Some x → m ≡ at_once m w 0 l x
  at_once_none m w l x e f =
      same_state m _ _ _ _
      (sym (ap (slice_set m.streams l.stream) (none_at_once x) ∙ set_same m.streams l.stream x f))
      (sym (ap (λ (h : Held). slice_set m.workers w (Some h)) (used_more l (l.used + 0) l.used (omega arith))
      ∙ set_same m.workers w (Some l) e))

  -- the lease and the stream are there
  pub lease_at_once : (m : State F) (w k : ℕ) (l : Held) (x : StreamState F)
      → slice_get m.workers w ≡ Some (Some l)
      → slice_get (at_once m w k l x).workers w ≡ Some (Some (with_used k l))
  lease_at_once m w k l x e =
      slice_get_set_same m.workers w (Some (with_used k l)) (slice_get_within m.workers w (Some l) e)

  pub stream_at_once : (m : State F) (w k : ℕ) (l : Held) (x : StreamState F)
      → slice_get m.streams l.stream ≡ Some x
      → slice_get (at_once m w k l x).streams l.stream ≡ Some (worked_at_once k x)
  stream_at_once m w k l x f =
      slice_get_set_same m.streams l.stream (worked_at_once k x) (slice_get_within m.streams l.stream x f)

module _ {F : Type 0} (G : Type 0) where
  -- one band more, from there
  at_once_more : (m : State F) (w k : ℕ) (l : Held) (x : StreamState F)
      → slice_get m.workers w ≡ Some (Some l)
      → slice_get m.streams l.stream ≡ Some x
      → let r : Reply F G = Stepped in after (at_once m w k l x) (Band w) r ≡ at_once m w (suc k) l x
  at_once_more m w k l x e f =
      let h : Held = with_used k l in
      let more : Held = record h { used = l.used + k + 1 } in
      sym (after_band G (at_once m w k l x) w h more (worked_at_once k x) (lease_at_once m w k l x e)
      (stream_at_once m w k l x f) refl)
      ∙ same_state m _ _ _ _
      (set-set m.streams l.stream (worked_at_once k x) (did (worked_at_once k x) Worked)
      ∙ ap (slice_set m.streams l.stream) (more_at_once k x))
      (set-set m.workers w (Some h) _
      ∙ ap (λ (h : Held). slice_set m.workers w (Some h))
      (used_more l (l.used + k + 1) (l.used + suc k) (omega arith)))

module _ {F G : Type 0} (measures : StreamSpec → F → Bool → Type 0)
    (is_image : StreamSpec → F → G → Type 0) where
  pub band_allowed : (m : State F) (w : ℕ) (l : Held) → slice_get m.workers w ≡ Some (Some l) → l.used ≢ l.grant
      → Allows measures is_image m (Band w) Stepped
  band_allowed m w l e n = rw e (rw (test_no l.used l.grant n) refl)

  pub at_once_is : AtOnceLaw measures is_image
  at_once_is m w zero l x e f u = (tt, at_once_none m w l x e f)
  at_once_is m w (suc k) l x e f u =
      let before = at_once_is m w k l x e f (omega arith) in
      let less : l.used + k ≢ l.grant = omega arith in
      let allowed = band_allowed (at_once m w k l x) w (with_used k l) (lease_at_once m w k l x e) less in (
        (
          before.0,
          subst (λ (n : State F). Allows measures is_image n (Band w) Stepped)
              (sym before.1) allowed,
        ),
        ap (λ (n : State F). let r : Reply F G = Stepped in after n (Band w) r) before.1
            ∙ at_once_more G m w k l x e f,
      )

  pub settled_is : SettledLaw measures is_image
  settled_is m w k l x e f u =
      let before = at_once_is m w k l x e f u in
      let n : State F = at_once m w k l x in
      let r : Reply F G = settle_reply (worked_at_once k x) in
      let mine = lease_at_once m w k l x e in
      let here = stream_at_once m w k l x f in
      let allowed : Allows measures is_image n (Settle w) r =
      rw mine (and_some (slice_get n.streams l.stream) _ (worked_at_once k x) here refl) in (
        (before.0, subst (λ (n : State F). Allows measures is_image n (Settle w) r) (sym before.1) allowed),
        ap (λ (n : State F). after n (Settle w) r) before.1
            ∙ sym (after_settle G n w (with_used k l) (worked_at_once k x) r refl mine here)
            ∙ same_state m _ _ _ _ (set-set m.streams l.stream (worked_at_once k x) _)
            (set-set m.workers w (Some (with_used k l)) None),
      )
