-- Transcripts from any opening state.
use Rattle.std.proofs.Common.{◌≡◌, Bool, length, refl, sym, ◌∙◌, ap, subst}
use Rattle.serve_core.specs.Counts.{held_after}
use Rattle.serve_core.specs.Events.{Event, Reply, Start, Then, Transcript, joined}
use Rattle.serve_core.specs.Leads.{GoingOnLaw, IsLegalFrom, JoinLaw, Leads, LeadsOn, OpeningLaw, SoundFromLaw, StepLaw}
use Rattle.serve_core.specs.Leads.{UnchangedLaw, opening_state, state_from}
use Rattle.serve_core.specs.Rules.{Allows, IsLegal}
use Rattle.serve_core.specs.Setup.{Setup, StreamSpec}
use Rattle.serve_core.specs.Sound.{Sound}
use Rattle.serve_core.specs.States.{State, after, state_of}
use Rattle.serve_core.proofs.Events.Kept.{step_sound}
use Rattle.serve_core.proofs.Events.Summary.{summary_more}
use Rattle.serve_core.proofs.Items.Lists.{length_map_at}

module _ (F G : Type 0) where
  same_quantum : (m : State F) (p : Transcript F G) → (state_from m p).quantum ≡ m.quantum
  same_quantum m Start = refl
  same_quantum m (Then p e r) = same_quantum m p

  same_workers : (m : State F) (p : Transcript F G) → length (state_from m p).workers ≡ length m.workers
  same_workers m Start = refl
  same_workers m (Then p e r) =
      length_map_at (λ w h. held_after w h e r) 0 (state_from m p).workers ∙ same_workers m p

  pub unchanged_is : UnchangedLaw F G
  unchanged_is m p = (same_quantum m p, same_workers m p)

module _ {F G : Type 0} where
  pub from_opening : (setup : Setup) (p : Transcript F G)
      → state_of setup p ≡ state_from (opening_state F G setup) p
  from_opening setup Start = refl
  from_opening setup (Then p e r) =
      summary_more F G setup p e r ∙ ap (λ (m : State F). after m e r) (from_opening setup p)

  pub joined_state : (m : State F) (p q : Transcript F G)
      → state_from m (joined p q) ≡ state_from (state_from m p) q
  joined_state m p Start = refl
  joined_state m p (Then q e r) = ap (λ (n : State F). after n e r) (joined_state m p q)

module _ {F G : Type 0} (measures : StreamSpec → F → Bool → Type 0)
    (is_image : StreamSpec → F → G → Type 0) where
  pub step_is : StepLaw measures is_image
  step_is setup p e r l a = ((l, a), summary_more F G setup p e r)

  pub leads_on : (m n : State F) (e : Event F) (r : Reply F G) → Allows measures is_image m e r → n ≡ after m e r
      → LeadsOn measures is_image m e r n
  leads_on m n e r a same setup p l at =
      let here = subst (λ (m : State F). Allows measures is_image m e r) (sym at) a in
      ((l, here), summary_more F G setup p e r ∙ ap (λ (m : State F). after m e r) at ∙ sym same)

  legal_opening : (setup : Setup) (p : Transcript F G) → IsLegal measures is_image setup p
      → IsLegalFrom measures is_image (opening_state F G setup) p
  legal_opening setup Start l = tt
  legal_opening setup (Then p e r) l = (
    legal_opening setup p l.0,
    subst (λ (m : State F). Allows measures is_image m e r) (from_opening setup p) l.1,
  )

  opening_legal : (setup : Setup) (p : Transcript F G)
      → IsLegalFrom measures is_image (opening_state F G setup) p
      → IsLegal measures is_image setup p
  opening_legal setup Start l = tt
  opening_legal setup (Then p e r) l = (
    opening_legal setup p l.0,
    subst (λ (m : State F). Allows measures is_image m e r) (sym (from_opening setup p)) l.1,
  )

  pub opening_is : OpeningLaw measures is_image
  opening_is setup p = (from_opening setup p, (legal_opening setup p, opening_legal setup p))

  joined_legal : (m : State F) (p q : Transcript F G) → IsLegalFrom measures is_image m p
      → IsLegalFrom measures is_image (state_from m p) q → IsLegalFrom measures is_image m (joined p q)
  joined_legal m p Start h l = h
  joined_legal m p (Then q e r) h l = (
    joined_legal m p q h l.0,
    subst (λ (n : State F). Allows measures is_image n e r) (sym (joined_state m p q)) l.1,
  )

  pub join_is : JoinLaw measures is_image
  join_is m n o p q h l = (
    joined_legal m p q h.0 (subst (λ (s : State F). IsLegalFrom measures is_image s q) (sym h.1) l.0),
    joined_state m p q ∙ ap (λ (s : State F). state_from s q) h.1 ∙ l.1,
  )

  pub going_on_is : GoingOnLaw measures is_image
  going_on_is setup p q n l h =
      let m = opening_state F G setup in
      let led : Leads measures is_image m p (state_of setup p) =
      (legal_opening setup p l, sym (from_opening setup p)) in
      let all = join_is m (state_of setup p) n p q led h in
      (opening_legal setup (joined p q) all.0, from_opening setup (joined p q) ∙ all.1)

  pub legal_sound : (m : State F) (p : Transcript F G) → Sound m → IsLegalFrom measures is_image m p
      → Sound (state_from m p)
  legal_sound m Start h l = h
  legal_sound m (Then p e r) h l =
      step_sound measures is_image (state_from m p) e r (legal_sound m p h l.0) l.1

  pub sound_from : SoundFromLaw measures is_image
  sound_from m n p h l = subst Sound l.1 (legal_sound m p h l.0)
