-- The frames that a stream keeps have its size, so that they have an image.
use Rattle.std.proofs.Common.{ℕ, ◌-◌, ◌≡◌, Bool, true, false, nat_eq, nat_le, List, All, Option}
use Rattle.std.proofs.Common.{Some, None, slice_get, if◌then◌else◌, refl, sym, subst, inl, inr}
use Rattle.std.proofs.lemmas.List.Elements.{All-drop, All-nil, All-push}
use Rattle.std.proofs.lemmas.Option.{MatchOption-at_some, slice_get_within}
use Rattle.serve_core.specs.declared.refusal.Refusal.TheVariants as refusals
use Rattle.serve_core.specs.declared.held.Held.{Held}
use Rattle.serve_core.specs.Counts.{Back, Came, Deed, Ended, Lent, Shut, Taken, Worked, came, deed}
use Rattle.serve_core.specs.Counts.{has_stream, held_below, now, settled, shut, specs, taken, waiting, with_deed}
use Rattle.serve_core.specs.Counts.{worked}
use Rattle.serve_core.specs.Events.{Accepted, Admit, Arrive, Band, Close, Closing, Collect, Event, Finished}
use Rattle.serve_core.specs.Events.{GivenBack, Image, Lease, Leased, Reply, Returned, Settle, Start, Stepped}
use Rattle.serve_core.specs.Events.{Then, Tick, Transcript}
use Rattle.serve_core.specs.Laws.{AnswerAfterLaw, SizedLaw}
use Rattle.serve_core.specs.Rules.{AllowsArrive, IsLegal, arrival_refusal}
use Rattle.serve_core.specs.Setup.{Setup, StreamSpec}
use Rattle.serve_core.specs.States.{StreamState, past, state_of, stream_of}
use Rattle.serve_core.proofs.Charges.Demands.{past_of}
use Rattle.serve_core.proofs.Events.Kept.{sound}
use Rattle.serve_core.proofs.Events.Streams.{same_or}
use Rattle.serve_core.proofs.Events.Summary.{next_is, next_new}
use Rattle.serve_core.proofs.Events.Turns.{accepted_none, first_sized}
use Rattle.serve_core.proofs.Items.Lists.{all_at}
use Rattle.serve_core.proofs.Rules.Replies.{answers}
use Rattle.serve_core.proofs.Transcripts.Pasts.{spec_or, stream_at}

-- what holds of each frame that comes holds of those that wait
module _ {F : Type 0} (P : F → Type 0) where
  abbrev IsOfNew : Option (Deed F) → Type 0
  IsOfNew (Some (Came t f)) = P f
  IsOfNew o = Unit {0}

  all_waiting : (h : List (Deed F)) (o : Option (Deed F)) → IsOfNew o → All P (waiting h)
      → All P (waiting (with_deed o h))
  all_waiting h None n a = a
  all_waiting h (Some (Came t f)) n a = All-push P (waiting h) f a n
  all_waiting h (Some Worked) n a = a
  all_waiting h (Some (Lent w)) n a = a
  all_waiting h (Some Back) n a = a
  all_waiting h (Some Ended) n a = a
  all_waiting h (Some Shut) n a = a
  all_waiting h (Some Taken) n a = All-drop P 1 (waiting h) a

  new_lent : (b : Bool) (w : ℕ) → IsOfNew (if b then Some (Lent w) else None)
  new_lent true w = tt
  new_lent false w = tt

module _ {F G : Type 0} (P : F → Type 0) where
  new_came : (t : ℕ) (f : F) (r : Reply F G) → ((n : ℕ) → r ≡ Accepted n → P f) → IsOfNew P (came t f r)
  new_came t f (Accepted n) h = h n refl
  new_came t f r h = tt

  new_worked : (b : Bool) (r : Reply F G) → IsOfNew P (if b then worked r else None)
  new_worked true Stepped = tt
  new_worked true r = tt
  new_worked false r = tt

  new_settled : (b : Bool) (r : Reply F G) → IsOfNew P (if b then settled r else None)
  new_settled true Returned = tt
  new_settled true (Finished n) = tt
  new_settled true r = tt
  new_settled false r = tt

  new_shut : (b : Bool) (r : Reply F G) → IsOfNew P (if b then shut r else None)
  new_shut true Closing = tt
  new_shut true r = tt
  new_shut false r = tt

  new_taken : (b : Bool) (r : Reply F G) → IsOfNew P (if b then taken r else None)
  new_taken true (Image g) = tt
  new_taken true r = tt
  new_taken false r = tt

  new_of : (s t : ℕ) (ws : ℕ → Option Held) (e : Event F) (r : Reply F G)
      → ((f : F) → e ≡ Arrive s f → (n : ℕ) → r ≡ Accepted n → P f) → IsOfNew P (deed s t ws e r)
  new_of s t ws (Arrive u f) r h =
      elim (same_or u s) [
        | inl q ↦ rw q.1 (new_came t f r (h f (let same = q.0 in cc)))
        | inr q ↦ rw q.1 tt
      ]
  new_of s t ws (Lease w) (Leased u n g) h = new_lent P (nat_eq u s) w
  new_of s t ws (Lease w) r h = tt
  new_of s t ws (Band w) r h = new_worked (has_stream s (ws w)) r
  new_of s t ws (Settle w) r h = new_settled (has_stream s (ws w)) r
  new_of s t ws (Tick to) r h = tt
  new_of s t ws (Close u) r h = new_shut (nat_eq u s) r
  new_of s t ws (Collect u) r h = new_taken (nat_eq u s) r
  new_of s t ws (Admit spec) r h = tt

module _ {F G : Type 0} (measures : StreamSpec → F → Bool → Type 0)
    (is_image : StreamSpec → F → G → Type 0) where
  -- a frame that is accepted has the stream's size
  accepted_sized : (x : StreamState F) (b : Bool) (f : F) (n : ℕ) → measures x.spec f b
      → AllowsArrive {F = F} {G = G} b x f (Accepted n) → measures x.spec f true
  accepted_sized x b f n m a =
      let none = accepted_none F G (arrival_refusal b x) n x.accepted f a in
      subst (measures x.spec f)
      (first_sized x.is_closed b (nat_eq x.accepted x.spec.frames)
      (nat_le x.spec.queue (x.accepted - x.finished)) none) m

  arrival_sized : (setup : Setup) (p : Transcript F G) (s n : ℕ) (f : F) (spec : StreamSpec)
      → IsLegal measures is_image setup (Then p (Arrive s f) (Accepted n))
      → slice_get (specs setup p) s ≡ Some spec → measures spec f true
  arrival_sized setup p s n f spec l k =
      let r : Reply F G = Accepted n in
      let a = MatchOption-at_some (r ≡ GivenBack refusals.NoStream f)
      (λ x. (is_sized : Bool) × measures x.spec f is_sized × AllowsArrive is_sized x f r)
      (stream_of spec (past setup s p)) (stream_at measures is_image setup p s spec k) l.1 in
      accepted_sized (stream_of spec (past setup s p)) a.0 f n a.1 a.2

  waiting_sized : (setup : Setup) (p : Transcript F G) (s : ℕ) (spec : StreamSpec)
      → IsLegal measures is_image setup p → slice_get (specs setup p) s ≡ Some spec
      → All (λ f. measures spec f true) (waiting (past setup s p))
  waiting_sized setup Start s spec l k = All-nil (λ f. measures spec f true)
  waiting_sized setup (Then p e r) s spec l k =
      let P = λ (f : F). measures spec f true in
      elim (spec_or setup p e r s spec k) [
        | inl old ↦ subst (λ (o : Option (Deed F)). All P (waiting (with_deed o (past setup s p))))
            (sym (next_is setup s p e r (slice_get_within (specs setup p) s spec old)))
            (all_waiting P (past setup s p)
            (deed s (now p) (held_below setup.workers p) e r)
            (new_of P s (now p) (held_below setup.workers p) e r
            (λ f i n j. arrival_sized setup p s n f spec
            (subst (λ (q : Reply F G). IsLegal measures is_image setup (Then p (Arrive s f) q)) j
            (subst (λ (d : Event F). IsLegal measures is_image setup (Then p d r)) i l)) old))
            (waiting_sized setup p s spec l.0 old))
        | inr new ↦ subst (λ (h : List (Deed F)). All P (waiting h)) (sym (next_new setup s p e r new)) (All-nil P)
      ]

  pub sized_is : SizedLaw measures is_image
  sized_is setup p s k x f l here at =
      let from = past_of measures is_image setup p s x here in
      let all = waiting_sized setup p s from.0 l from.1 in
      subst (λ (y : StreamState F). slice_get y.frames k ≡ Some f → measures y.spec f true) (sym from.2)
      (all_at (λ f. measures from.0 f true) (waiting (past setup s p)) k f all) at

  pub answers_after : AnswerAfterLaw measures is_image
  answers_after sizes setup p e v l images =
      answers measures is_image sizes (state_of setup p) e (sound measures is_image setup p v l)
      (λ s x f here at.
      let from = past_of measures is_image setup p s x here in
      let sized = sized_is setup p s 0 x f l here at in
      subst (λ (y : StreamState F). measures y.spec f true → (g : G) × is_image y.spec f g) (sym from.2)
      (images s from.0 f from.1) sized)
