-- What leads on from a state that is reached.
use Rattle.std.proofs.Common.{ℕ, suc, ◌≡◌, ◌≤◌, Bool, List, [], ◌∷◌, length, replicate, refl, sym, ◌∙◌, ap}
use Rattle.std.proofs.Common.{subst, arith}
use Rattle.std.proofs.lemmas.List.{length-replicate, length_push}
use Rattle.cbs_account.specs.declared.limits.TheConstants.{MOST_STREAMS}
use Rattle.serve_core.specs.Counts.{deed, held}
use Rattle.serve_core.specs.Events.{Admit, Admitted, Event, Reply, Start, Then, Transcript, joined}
use Rattle.serve_core.specs.Events.{with_admitted}
use Rattle.serve_core.specs.Leads.{IsLegalFrom, Leads, opening_state, state_from}
use Rattle.serve_core.specs.Reached.{FewLaw, LeadsBehind, LeadsOver, OverJoinLaw, OverLaw, ReachedLaw}
use Rattle.serve_core.specs.Rules.{Allows, IsLegal}
use Rattle.serve_core.specs.Setup.{StreamSpec}
use Rattle.serve_core.specs.States.{State, StreamState, did_any, held_at, map_at, new_stream, state_of}
use Rattle.serve_core.specs.States.{stream_of}
use Rattle.serve_core.proofs.Transcripts.Openings.{from_opening, going_on_is, joined_state, opening_is}

pub length-map_at : {X Y : Type 0} (i : ℕ) (f : ℕ → X → Y) (xs : List X) → length (map_at i f xs) ≡ length xs
length-map_at i f [] = refl
length-map_at i f (x ∷ xs) = ap suc (length-map_at (suc i) f xs)

module _ {F G : Type 0} where
  -- three transcripts, one after the other
  pub joined_again : (p q r : Transcript F G) → joined (joined p q) r ≡ joined p (joined q r)
  joined_again p q Start = refl
  joined_again p q (Then r e a) = ap (λ (s : Transcript F G). Then s e a) (joined_again p q r)

module _ {F G : Type 0} (measures : StreamSpec → F → Bool → Type 0)
    (is_image : StreamSpec → F → G → Type 0) where
  -- what follows in a legal transcript is legal from where the first part led
  legal_behind : (m : State F) (p q : Transcript F G) → IsLegalFrom measures is_image m (joined p q)
      → IsLegalFrom measures is_image (state_from m p) q
  legal_behind m p Start l = tt
  legal_behind m p (Then q e r) l = (
    legal_behind m p q l.0,
    subst (λ (n : State F). Allows measures is_image n e r) (joined_state m p q) l.1,
  )

  pub leads_behind : (m n : State F) (p : Transcript F G) → Leads measures is_image m p n
      → LeadsBehind measures is_image m p n
  leads_behind m n p led setup q l at =
      going_on_is measures is_image setup q p n l
      (subst (λ (s : State F). Leads measures is_image s p n) (sym at) led)

  pub behind_leads : (m n : State F) (p : Transcript F G) → LeadsOver measures is_image m p n
      → Leads measures is_image m p n
  behind_leads m n p over =
      let r = over.reached in
      let o = opening_state F G r.setup in
      let all = over.behind r.setup r.past r.legal r.state in
      let here : state_from o r.past ≡ m = sym (from_opening r.setup r.past) ∙ r.state in
      let legal = legal_behind o r.past p ((opening_is measures is_image r.setup (joined r.past p)).1.0 all.0) in (
        subst (λ (s : State F). IsLegalFrom measures is_image s p) here legal,
        ap (λ (s : State F). state_from s p) (sym here) ∙ sym (joined_state o r.past p)
            ∙ sym (from_opening r.setup (joined r.past p)) ∙ all.1,
      )

  pub over_is : OverLaw measures is_image
  over_is m n p = (
    λ over. (over.reached, behind_leads m n p over),
    λ led. record { reached = led.0; behind = leads_behind m n p led.1 },
  )

  pub reached_is : ReachedLaw measures is_image
  reached_is m n p over =
      let r = over.reached in
      let all = over.behind r.setup r.past r.legal r.state in
      record { setup = r.setup; is_setup = r.is_setup; past = joined r.past p; legal = all.0; state = all.1 }

  pub over_join_is : OverJoinLaw measures is_image
  over_join_is m n o p q one two = record {
    reached = one.reached;
    behind = λ setup r l at.
        let first = one.behind setup r l at in
        let then = two.behind setup (joined r p) first.0 first.1 in
        subst (λ (t : Transcript F G). IsLegal measures is_image setup t × (state_of setup t ≡ o))
        (joined_again r p q) then;
  }

  -- an event admits only where fewer than 64 are there
  few_with : (m : State F) (e : Event F) (r : Reply F G) (xs : List (StreamState F))
      → Allows measures is_image m e r → length xs ≡ length m.streams → length m.streams ≤ MOST_STREAMS
      → length (with_admitted new_stream e r xs) ≤ MOST_STREAMS
  few_with m (Admit spec) (Admitted s) xs a same few =
      omega (arith, length_push xs (new_stream spec), a.0.few, same)
  few_with m e r xs a same few = omega (arith, same, few)

  few_from : (m : State F) (p : Transcript F G) → length m.streams ≤ MOST_STREAMS → IsLegalFrom measures is_image m p
      → length (state_from m p).streams ≤ MOST_STREAMS
  few_from m Start few l = few
  few_from m (Then p e r) few l =
      let n = state_from m p in
      let change = λ (s : ℕ) (x : StreamState F). did_any x (deed s n.clock (held_at n.workers) e r) in
      few_with n e r (map_at 0 change n.streams) l.1 (length-map_at 0 change n.streams) (few_from m p few l.0)

  pub few_is : FewLaw measures is_image
  few_is m r =
      let o = opening_state F G r.setup in
      let limits = r.is_setup.0.limits in
      let first = length-map_at 0 (λ (s : ℕ) (spec : StreamSpec). stream_of {F = F} spec []) r.setup.streams in
      let led = (opening_is measures is_image r.setup r.past).1.0 r.legal in
      let streams = few_from o r.past (omega (arith, limits.streams, first)) led in
      let workers = length-map_at {X = ℕ} 0 (λ w none. held w r.past) (replicate r.setup.workers 0) in
      let here : state_from o r.past ≡ m = sym (from_opening r.setup r.past) ∙ r.state in (
        subst (λ (s : State F). length s.streams ≤ MOST_STREAMS) here streams,
        omega (
          arith,
          limits.workers,
          workers,
          length-replicate {A = ℕ} r.setup.workers 0,
          ap (λ (s : State F). length s.workers) r.state,
        ),
      )
