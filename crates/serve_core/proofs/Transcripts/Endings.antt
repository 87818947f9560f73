-- What a close and the answer Drained say of all that follows.
use Rattle.std.proofs.Common.{ℕ, ◌≡◌, ◌≤◌, inl, inr, Bool, true, false, nat_eq, nat_lt, if◌then◌else◌, ◌&&◌, refl, sym}
use Rattle.std.proofs.Common.{◌∙◌, ap, subst, arith, List, length, take_all, Option, Some, None, slice_get}
use Rattle.std.proofs.Common.{MatchBool, MatchOption, IsSomeAnd}
use Rattle.std.proofs.lemmas.Option.{MatchOption-at_some, slice_get_within}
use Rattle.std.specs.List.{AllZip}
use Rattle.serve_core.specs.declared.refusal.Refusal.TheVariants as refusals
use Rattle.serve_core.specs.Counts.{Deed, accepted, collected, delivered, frames, is_closed, next_deed, now}
use Rattle.serve_core.specs.Counts.{specs, with_deed}
use Rattle.serve_core.specs.Delivered.{CloseLaw, DrainedLaw}
use Rattle.serve_core.specs.Events.{Collect, Image, Refused, Reply, Start, Then, Transcript, joined}
use Rattle.serve_core.specs.Rules.{AllowsCollect, IsLegal}
use Rattle.serve_core.specs.Setup.{IsWithin, Setup, StreamSpec}
use Rattle.serve_core.specs.States.{StreamState, past, stream_of}
use Rattle.serve_core.proofs.Events.Summary.{history_new, next_is}
use Rattle.serve_core.proofs.Events.Turns.{tested_ge, tested_eq}
use Rattle.serve_core.proofs.Transcripts.Pasts.{IsShutStill, delivered_is, length_frames, no_stream, none_if, past_can}
use Rattle.serve_core.proofs.Transcripts.Pasts.{past_sound, shut_more, spec_early, spec_still, stream_at}

module _ {F G : Type 0} (measures : StreamSpec → F → Bool → Type 0)
    (is_image : StreamSpec → F → G → Type 0) where
  -- what a legal transcript begins with is legal
  pub legal_before : (setup : Setup) (q later : Transcript F G)
      → IsLegal measures is_image setup (joined q later)
      → IsLegal measures is_image setup q
  legal_before setup q Start l = l
  legal_before setup q (Then p e r) l = legal_before setup q p l.0

  shut_still : (setup : Setup) (q later : Transcript F G) (s : ℕ) (spec : StreamSpec) (h : List (Deed F))
      → IsWithin setup
      → IsLegal measures is_image setup (joined q later) → slice_get (specs setup q) s ≡ Some spec
      → IsShutStill h (past setup s q) → IsShutStill h (past setup s (joined q later))
  shut_still setup q Start s spec h v l k i = i
  shut_still setup q (Then p e r) s spec h v l k i =
      let before = joined q p in
      shut_more (now before) spec h (past setup s before) (next_deed setup s before e r)
      (past_can measures is_image setup before e r s spec v l (spec_still setup q p s spec k))
      (shut_still setup q p s spec h v l.0 k i)

  close_joined : (setup : Setup) (q later : Transcript F G) (s : ℕ) (spec : StreamSpec) → IsWithin setup
      → IsLegal measures is_image setup (joined q later) → slice_get (specs setup (joined q later)) s ≡ Some spec
      → is_closed (past setup s q) ≡ true → frames (past setup s (joined q later)) ≡ frames (past setup s q)
  close_joined setup q later s spec v l k c =
      elim (spec_early setup q later s spec k) [
        | inl old ↦ (shut_still setup q later s spec (past setup s q) v l old (c, refl, omega arith)).1
        | inr new ↦ absurd (let none = history_new setup s q new in
            let unshut : is_closed (past setup s q) ≡ false = ap is_closed none in cc)
      ]

  pub close_is : CloseLaw measures is_image
  close_is setup p q s spec v l k b c =
      let whole = subst (IsLegal measures is_image setup) b.1 l in
      let here = subst (λ (p : Transcript F G). slice_get (specs setup p) s ≡ Some spec) b.1 k in
      ap (λ (p : Transcript F G). frames (past setup s p)) b.1 ∙ close_joined setup q b.0 s spec v whole here c

  drained_test : (b c d : Bool) (P : F → Type 0) (o : Option F)
      → let r : Reply F G = Refused refusals.Drained in
      ((f : F) → P f → ⊥)
      → MatchBool b (IsSomeAnd o P) (r ≡ Refused (if c && d then refusals.Drained else refusals.Empty))
      → (b ≡ false) × (c ≡ true) × (d ≡ true)
  drained_test true c d P None n h = absurd h
  drained_test true c d P (Some f) n h = absurd (n f h)
  drained_test false true true P o n h = (refl, refl, refl)
  drained_test false true false P o n h = absurd (cc)
  drained_test false false d P o n h = absurd (cc)

  not_image : (g : G) → let r : Reply F G = Refused refusals.Drained in r ≡ Image g → ⊥
  not_image g e = cc

  -- what the answer Drained says of its stream
  pub drained_facts : (x : StreamState F) → AllowsCollect measures is_image x (Refused refusals.Drained)
      → (x.finished ≤ x.collected) × (x.is_closed ≡ true) × (x.accepted ≡ x.finished)
  drained_facts x h =
      let t = drained_test (nat_lt x.collected x.finished) x.is_closed (nat_eq x.accepted x.finished) _
      (slice_get x.frames 0) (λ f e. not_image e.0 e.2) h in
      (tested_ge x.collected x.finished t.0, t.1, tested_eq x.accepted x.finished t.2)

  -- all was collected at the transcript p, which began with q
  abbrev AllCollected : Setup → Transcript F G → Transcript F G → ℕ → StreamSpec → Type 0
  AllCollected setup p q s spec =
      (collected (past setup s p) ≡ accepted (past setup s p))
      × (frames (past setup s p) ≡ frames (past setup s q))
      × AllZip (is_image spec) (frames (past setup s p)) (delivered s p)

  all_delivered : (setup : Setup) (p : Transcript F G) (s : ℕ) (spec : StreamSpec) → IsWithin setup
      → IsLegal measures is_image setup p → slice_get (specs setup p) s ≡ Some spec
      → collected (past setup s p) ≡ accepted (past setup s p)
      → AllZip (is_image spec) (frames (past setup s p)) (delivered s p)
  all_delivered setup p s spec v l k e =
      let h = past setup s p in
      let many : length (frames h) ≤ collected h = omega (arith, e, length_frames h) in
      subst (λ (fs : List F). AllZip (is_image spec) fs (delivered s p))
      (take_all (collected h) (frames h) many)
      (delivered_is measures is_image setup p s spec v l k)

  drained_joined : (setup : Setup) (q later : Transcript F G) (s : ℕ) (spec : StreamSpec) → IsWithin setup
      → slice_get (specs setup q) s ≡ Some spec
      → let p = joined (Then q (Collect s) (Refused refusals.Drained)) later in
      IsLegal measures is_image setup p → AllCollected setup p q s spec
  drained_joined setup q later s spec v k l =
      let d : Reply F G = Refused refusals.Drained in
      let now : Transcript F G = Then q (Collect s) d in
      let p : Transcript F G = joined now later in
      let at : IsLegal measures is_image setup now = legal_before setup now later l in
      let was = past_sound measures is_image setup q s spec v at.0 k in
      let answer = MatchOption-at_some (d ≡ Refused refusals.NoStream)
      (λ x. AllowsCollect measures is_image x d)
      (stream_of spec (past setup s q)) (stream_at measures is_image setup q s spec k) at.1 in
      let facts = drained_facts (stream_of spec (past setup s q)) answer in
      let same : past setup s now ≡ past setup s q =
      ap (λ (o : Option (Deed F)). with_deed o (past setup s q))
      (next_is setup s q (Collect s) d (slice_get_within (specs setup q) s spec k))
      ∙ none_if F (nat_eq s s) (past setup s q) in
      let start : IsShutStill (past setup s q) (past setup s now) =
      (ap is_closed same ∙ facts.1, ap frames same, omega (arith, ap collected same)) in
      let still = shut_still setup now later s spec (past setup s q) v l k start in
      let there = spec_still setup now later s spec k in
      let end = past_sound measures is_image setup p s spec v l there in
      let count : accepted (past setup s p) ≡ accepted (past setup s q) =
      sym (length_frames (past setup s p)) ∙ ap length still.1 ∙ length_frames (past setup s q) in
      let all : collected (past setup s p) ≡ accepted (past setup s p) =
      omega (arith, still.2, end.in_order, end.finished, facts.0, facts.2, count) in
      (all, still.1, all_delivered setup p s spec v l there all)

  -- a stream that answers Drained is there
  drained_there : (setup : Setup) (q later : Transcript F G) (s : ℕ) (spec : StreamSpec)
      → let now : Transcript F G = Then q (Collect s) (Refused refusals.Drained) in
      IsLegal measures is_image setup now → slice_get (specs setup (joined now later)) s ≡ Some spec
      → slice_get (specs setup q) s ≡ Some spec
  drained_there setup q later s spec l k =
      let d : Reply F G = Refused refusals.Drained in
      let now : Transcript F G = Then q (Collect s) d in
      elim (spec_early setup now later s spec k) [
        | inl old ↦ old
        | inr new ↦ absurd (
            let no : d ≡ Refused refusals.NoStream =
            subst (λ (o : Option (StreamState F)). MatchOption o (d ≡ Refused refusals.NoStream)
            (λ x. AllowsCollect measures is_image x d)) (no_stream setup q s new) l.1 in
            cc)
      ]

  pub drained_is : DrainedLaw measures is_image
  drained_is setup p q s spec v l k b =
      let now : Transcript F G = Then q (Collect s) (Refused refusals.Drained) in
      let whole = subst (IsLegal measures is_image setup) b.1 l in
      let here = subst (λ (p : Transcript F G). slice_get (specs setup p) s ≡ Some spec) b.1 k in
      let there = drained_there setup q b.0 s spec (legal_before setup now b.0 whole) here in
      subst (λ (p : Transcript F G). AllCollected setup p q s spec) (sym b.1)
      (drained_joined setup q b.0 s spec v there whole)
