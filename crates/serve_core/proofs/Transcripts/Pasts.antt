-- What a legal transcript says of one stream's past.
use Rattle.std.proofs.Common.{ℕ, ◌+◌, ◌≡◌, ◌≤◌, ◌<◌, ◌⊎◌, inl, inr, Bool, true, false, nat_eq, if◌then◌else◌, refl}
use Rattle.std.proofs.Common.{sym, ◌∙◌, ap, subst, arith, List, [], ◌∷◌, ◌++◌, take, drop, length, get_or}
use Rattle.std.proofs.Common.{Option, Some, None, slice_get, MatchOption, add-zero, le_refl, le_trans}
use Rattle.std.proofs.lemmas.List.{length_push, drop-append-le, take-append-le, drop-drop, take_more}
use Rattle.std.proofs.lemmas.List.{get_or-drop}
use Rattle.std.proofs.lemmas.Option.{MatchOption-at_some, get_or_from_slice_get, slice_get_within}
use Rattle.std.specs.List.{AllZip}
use Rattle.serve_core.specs.declared.refusal.Refusal.TheVariants as refusals
use Rattle.serve_core.specs.Counts.{Back, Came, Deed, Ended, Lent, Shut, Taken, Worked, accepted, came}
use Rattle.serve_core.specs.Counts.{collected, deed, delivered, frames, has_stream, held_below, is_closed}
use Rattle.serve_core.specs.Counts.{lent, next_deed, now, settled, shut, specs, waiting, with_deed, worked}
use Rattle.serve_core.specs.Delivered.{DeliveredLaw}
use Rattle.serve_core.specs.Events.{Accepted, Admit, Arrive, Band, Close, Closing, Collect, Event, Finished}
use Rattle.serve_core.specs.Events.{Image, Lease, Leased, Refused, Reply, Returned, Settle, Start, Stepped}
use Rattle.serve_core.specs.Events.{Then, Tick, Transcript, joined}
use Rattle.serve_core.specs.Laws.{ChargeLaw, HolderLaw}
use Rattle.serve_core.specs.Rules.{AllowsCollect, IsLegal}
use Rattle.serve_core.specs.Setup.{IsWithin, Setup, StreamSpec}
use Rattle.serve_core.specs.Sound.{IsSound}
use Rattle.serve_core.specs.States.{StreamState, held_at, past, state_of, stream_of}
use Rattle.serve_core.proofs.Events.Kept.{sound}
use Rattle.serve_core.proofs.Events.Newcomers.{admitted_or, get_admitted, length_admitted}
use Rattle.serve_core.proofs.Events.Soundness.{can, image_facts, one_item}
use Rattle.serve_core.proofs.Events.Streams.{CanAny, same_or}
use Rattle.serve_core.proofs.Events.Summary.{deed_same, held_by_list, next_is, next_new}
use Rattle.serve_core.proofs.Items.Lists.{length_map_at, map_at_get, none_past}

module _ {F : Type 0} where
  pub length_frames : (h : List (Deed F)) → length (frames h) ≡ accepted h
  length_frames [] = refl
  length_frames (Came t f ∷ h) = length_push (frames h) f ∙ ap (λ (n : ℕ). n + 1) (length_frames h)
  length_frames (Worked ∷ h) = length_frames h
  length_frames (Lent w ∷ h) = length_frames h
  length_frames (Back ∷ h) = length_frames h
  length_frames (Ended ∷ h) = length_frames h
  length_frames (Shut ∷ h) = length_frames h
  length_frames (Taken ∷ h) = length_frames h

  -- what waits is what isn't collected
  waiting_more : (h : List (Deed F)) (o : Option (Deed F)) → collected h ≤ length (frames h)
      → waiting h ≡ drop (collected h) (frames h)
      → waiting (with_deed o h) ≡ drop (collected (with_deed o h)) (frames (with_deed o h))
  waiting_more h None l e = e
  waiting_more h (Some (Came t f)) l e = ap (λ (xs : List F). xs ++ f ∷ []) e
      ∙ sym (drop-append-le (collected h) (frames h) (f ∷ []) l)
  waiting_more h (Some Worked) l e = e
  waiting_more h (Some (Lent w)) l e = e
  waiting_more h (Some Back) l e = e
  waiting_more h (Some Ended) l e = e
  waiting_more h (Some Shut) l e = e
  waiting_more h (Some Taken) l e = ap (drop 1) e ∙ drop-drop 1 (collected h) (frames h)

  abbrev pub IsUntaken : Option (Deed F) → Type 0
  IsUntaken (Some Taken) = ⊥
  IsUntaken o = Unit {0}

  -- the frames that were taken, where none more is
  taken_same : (h : List (Deed F)) (o : Option (Deed F)) → IsUntaken o → collected h ≤ length (frames h)
      → take (collected (with_deed o h)) (frames (with_deed o h)) ≡ take (collected h) (frames h)
  taken_same h None u l = refl
  taken_same h (Some (Came t f)) u l = take-append-le (collected h) (frames h) (f ∷ []) l
  taken_same h (Some Worked) u l = refl
  taken_same h (Some (Lent w)) u l = refl
  taken_same h (Some Back) u l = refl
  taken_same h (Some Ended) u l = refl
  taken_same h (Some Shut) u l = refl
  taken_same h (Some Taken) u l = absurd u

  -- one more frame is taken
  taken_more : (h : List (Deed F)) (f : F) → collected h < length (frames h)
      → waiting h ≡ drop (collected h) (frames h) → slice_get (waiting h) 0 ≡ Some f
      → take (collected h + 1) (frames h) ≡ take (collected h) (frames h) ++ f ∷ []
  taken_more h f l e k =
      let first : get_or (waiting h) 0 f ≡ f = get_or_from_slice_get (waiting h) 0 f f k in
      let at : get_or (frames h) (collected h) f ≡ f =
      ap (λ (n : ℕ). get_or (frames h) n f) (sym (add-zero (collected h)))
      ∙ sym (get_or-drop (collected h) (frames h) 0 f) ∙ ap (λ (xs : List F). get_or xs 0 f) (sym e)
      ∙ first in
      take_more (frames h) (collected h) f l ∙ ap (λ (x : F). take (collected h) (frames h) ++ x ∷ []) at

  -- nothing comes to a closed stream
  abbrev pub IsShutStill : List (Deed F) → List (Deed F) → Type 0
  IsShutStill h k = (is_closed k ≡ true) × (frames k ≡ frames h) × (collected h ≤ collected k)

  pub shut_more : (t : ℕ) (spec : StreamSpec) (h k : List (Deed F)) (o : Option (Deed F))
      → CanAny t (stream_of spec k) o → IsShutStill h k → IsShutStill h (with_deed o k)
  shut_more t spec h k None c s = s
  shut_more t spec h k (Some (Came r f)) c s = absurd (let open_still = c.1 in let shut_now = s.0 in cc)
  shut_more t spec h k (Some Worked) c s = s
  shut_more t spec h k (Some (Lent w)) c s = s
  shut_more t spec h k (Some Back) c s = s
  shut_more t spec h k (Some Ended) c s = s
  shut_more t spec h k (Some Shut) c s = (refl, s.1, s.2)
  shut_more t spec h k (Some Taken) c s = (s.0, s.1, omega (arith, s.2))

zip_push : {X Y : Type 0} (R : X → Y → Type 0) (xs : List X) (ys : List Y) (x : X) (y : Y) → AllZip R xs ys
    → R x y
    → AllZip R (xs ++ x ∷ []) (ys ++ y ∷ [])
zip_push R [] [] x y h r = (r, tt)
zip_push R [] (b ∷ ys) x y h r = absurd h
zip_push R (a ∷ xs) [] x y h r = absurd h
zip_push R (a ∷ xs) (b ∷ ys) x y h r = (h.0, zip_push R xs ys x y h.1 r)

untaken_if : (F : Type 0) (b : Bool) (w : ℕ) → IsUntaken {F = F} (if b then Some (Lent w) else None)
untaken_if F true w = tt
untaken_if F false w = tt

pub none_if : (F : Type 0) (b : Bool) (h : List (Deed F)) → with_deed (if b then None else None) h ≡ h
none_if F true h = refl
none_if F false h = refl

module _ {F G : Type 0} where
  untaken_came : (b : Bool) (t : ℕ) (f : F) (r : Reply F G) → IsUntaken (if b then came t f r else None)
  untaken_came true t f (Accepted n) = tt
  untaken_came true t f r = tt
  untaken_came false t f r = tt

  untaken_shut : (b : Bool) (r : Reply F G) → IsUntaken {F = F} (if b then shut r else None)
  untaken_shut true Closing = tt
  untaken_shut true r = tt
  untaken_shut false r = tt

  untaken_worked : (b : Bool) (r : Reply F G) → IsUntaken {F = F} (if b then worked r else None)
  untaken_worked true Stepped = tt
  untaken_worked true r = tt
  untaken_worked false r = tt

  untaken_settled : (b : Bool) (r : Reply F G) → IsUntaken {F = F} (if b then settled r else None)
  untaken_settled true Returned = tt
  untaken_settled true (Finished n) = tt
  untaken_settled true r = tt
  untaken_settled false r = tt

  untaken_lent : (s w : ℕ) (r : Reply F G) → IsUntaken {F = F} (lent s w r)
  untaken_lent s w (Leased u n g) = untaken_if F (nat_eq u s) w
  untaken_lent s w r = tt

module _ {F G : Type 0} where
  pub no_stream : (setup : Setup) (p : Transcript F G) (s : ℕ) → length (specs setup p) ≤ s
      → slice_get (state_of setup p).streams s ≡ None
  no_stream setup p s l =
      let count = length_map_at (λ s spec. stream_of spec (past setup s p)) 0 (specs setup p) in
      none_past (state_of setup p).streams s (omega (arith, count, l))

  specs_grow : (setup : Setup) (q later : Transcript F G)
      → length (specs setup q) ≤ length (specs setup (joined q later))
  specs_grow setup q Start = le_refl (length (specs setup q))
  specs_grow setup q (Then p e r) =
      le_trans (specs_grow setup q p) (length_admitted (λ spec. spec) e r (specs setup (joined q p)))

  -- the streams that are there stay in their places
  pub spec_still : (setup : Setup) (q later : Transcript F G) (s : ℕ) (spec : StreamSpec)
      → slice_get (specs setup q) s ≡ Some spec → slice_get (specs setup (joined q later)) s ≡ Some spec
  spec_still setup q Start s spec k = k
  spec_still setup q (Then p e r) s spec k =
      get_admitted (λ spec. spec) e r (specs setup (joined q p)) s spec (spec_still setup q p s spec k)

  -- and were there before, or weren't
  pub spec_or : (setup : Setup) (p : Transcript F G) (e : Event F) (r : Reply F G) (s : ℕ) (spec : StreamSpec)
      → slice_get (specs setup (Then p e r)) s ≡ Some spec
      → (slice_get (specs setup p) s ≡ Some spec) ⊎ (length (specs setup p) ≤ s)
  spec_or setup p e r s spec k =
      elim (admitted_or (λ spec. spec) e r (specs setup p) s spec k) [
        | inl old ↦ inl old
        | inr new ↦ inr (omega (arith, new))
      ]

  pub spec_early : (setup : Setup) (q later : Transcript F G) (s : ℕ) (spec : StreamSpec)
      → slice_get (specs setup (joined q later)) s ≡ Some spec
      → (slice_get (specs setup q) s ≡ Some spec) ⊎ (length (specs setup q) ≤ s)
  spec_early setup q Start s spec k = inl k
  spec_early setup q (Then p e r) s spec k =
      elim (spec_or setup (joined q p) e r s spec k) [
        | inl old ↦ spec_early setup q p s spec old
        | inr new ↦ inr (le_trans (specs_grow setup q p) new)
      ]

module _ {F G : Type 0} (measures : StreamSpec → F → Bool → Type 0)
    (is_image : StreamSpec → F → G → Type 0) where
  pub stream_at : (setup : Setup) (p : Transcript F G) (s : ℕ) (spec : StreamSpec)
      → slice_get (specs setup p) s ≡ Some spec
      → slice_get (state_of setup p).streams s ≡ Some (stream_of spec (past setup s p))
  stream_at setup p s spec k = map_at_get (λ s spec. stream_of spec (past setup s p)) s (specs setup p) spec k

  -- the stream after a legal transcript is sound
  pub past_sound : (setup : Setup) (p : Transcript F G) (s : ℕ) (spec : StreamSpec) → IsWithin setup
      → IsLegal measures is_image setup p → slice_get (specs setup p) s ≡ Some spec
      → IsSound (now p) (stream_of spec (past setup s p))
  past_sound setup p s spec v l k =
      (sound measures is_image setup p v l).streams s (stream_of spec (past setup s p))
      (stream_at setup p s spec k)

  -- and the next deed can be
  pub past_can : (setup : Setup) (p : Transcript F G) (e : Event F) (r : Reply F G) (s : ℕ)
      (spec : StreamSpec) → IsWithin setup → IsLegal measures is_image setup (Then p e r)
      → slice_get (specs setup p) s ≡ Some spec
      → CanAny (now p) (stream_of spec (past setup s p)) (next_deed setup s p e r)
  past_can setup p e r s spec v l k =
      let c = can measures is_image (state_of setup p) e r s (stream_of spec (past setup s p))
      (sound measures is_image setup p v l.0) l.1 (stream_at setup p s spec k) in
      subst (CanAny (now p) (stream_of spec (past setup s p)))
      (sym (next_is setup s p e r (slice_get_within (specs setup p) s spec k)
      ∙ deed_same s (now p) (held_below setup.workers p) (held_at (state_of setup p).workers) e r
      (held_by_list setup p))) c

  taken_within : (setup : Setup) (p : Transcript F G) (s : ℕ) (spec : StreamSpec) → IsWithin setup
      → IsLegal measures is_image setup p → slice_get (specs setup p) s ≡ Some spec
      → collected (past setup s p) ≤ length (frames (past setup s p))
  taken_within setup p s spec v l k = let h = past_sound setup p s spec v l k in
      omega (arith, length_frames (past setup s p), h.in_order, h.finished)

  pub waiting_is : (setup : Setup) (p : Transcript F G) (s : ℕ) (spec : StreamSpec) → IsWithin setup
      → IsLegal measures is_image setup p → slice_get (specs setup p) s ≡ Some spec
      → waiting (past setup s p) ≡ drop (collected (past setup s p)) (frames (past setup s p))
  waiting_is setup Start s spec v l k = refl
  waiting_is setup (Then p e r) s spec v l k =
      elim (spec_or setup p e r s spec k) [
        | inl old ↦ waiting_more (past setup s p) (next_deed setup s p e r)
            (taken_within setup p s spec v l.0 old) (waiting_is setup p s spec v l.0 old)
        | inr new ↦ subst (λ (h : List (Deed F)). waiting h ≡ drop (collected h) (frames h))
            (sym (next_new setup s p e r new)) refl
      ]

  -- these are the images of the frames that were taken
  abbrev pub Gave : StreamSpec → List (Deed F) → List G → Type 0
  Gave spec h images = AllZip (is_image spec) (take (collected h) (frames h)) images

  gave_same : (spec : StreamSpec) (h : List (Deed F)) (o : Option (Deed F)) (images : List G) → IsUntaken o
      → collected h ≤ length (frames h) → Gave spec h images → Gave spec (with_deed o h) images
  gave_same spec h o images u l g =
      subst (λ (fs : List F). AllZip (is_image spec) fs images) (sym (taken_same h o u l)) g

  gave_none : (spec : StreamSpec) (h : List (Deed F)) (b : Bool) (images : List G) → Gave spec h images
      → Gave spec (with_deed (if b then None else None) h) images
  gave_none spec h true images g = g
  gave_none spec h false images g = g

  gave_more : (spec : StreamSpec) (h : List (Deed F)) (images : List G) (g : G)
      → collected h < length (frames h)
      → waiting h ≡ drop (collected h) (frames h)
      → AllowsCollect measures is_image (stream_of spec h) (Image g)
      → Gave spec h images → Gave spec (Taken ∷ h) (images ++ g ∷ [])
  gave_more spec h images g l e c gave =
      let f = (image_facts measures is_image (stream_of spec h) g c).1 in
      subst (λ (fs : List F). AllZip (is_image spec) fs (images ++ g ∷ [])) (sym (taken_more h f.0 l e f.1))
      (zip_push (is_image spec) (take (collected h) (frames h)) images f.0 g gave f.2)

  -- what is given at a collection that answers an image
  gave_image : (setup : Setup) (p : Transcript F G) (s : ℕ) (spec : StreamSpec) (g : G) → IsWithin setup
      → IsLegal measures is_image setup (Then p (Collect s) (Image g)) → slice_get (specs setup p) s ≡ Some spec
      → Gave spec (past setup s p) (delivered s p)
      → Gave spec (Taken ∷ past setup s p) (delivered s p ++ g ∷ [])
  gave_image setup p s spec g v l k gave =
      let h = past setup s p in
      let c = MatchOption-at_some (let r : Reply F G = Image g in r ≡ Refused refusals.NoStream)
      (λ x. AllowsCollect measures is_image x (Image g)) (stream_of spec h)
      (stream_at setup p s spec k) l.1 in
      let sound = past_sound setup p s spec v l.0 k in
      let taken = (image_facts measures is_image (stream_of spec h) g c).0 in
      let less : collected h < length (frames h) = omega (arith, length_frames h, sound.finished, taken) in
      gave_more spec h (delivered s p) g less (waiting_is setup p s spec v l.0 k) c gave

  -- nothing is given by a stream that isn't there
  gave_nothing : (setup : Setup) (p : Transcript F G) (s : ℕ) → IsLegal measures is_image setup p
      → length (specs setup p) ≤ s → delivered s p ≡ []
  gave_nothing setup Start s l n = refl
  gave_nothing setup (Then p (Collect u) (Image g)) s l n =
      elim (same_or u s) [
        | inl q ↦ absurd (
            let none = no_stream setup p u (let past_all : length (specs setup p) ≤ s = n in omega (arith, past_all, q.0)) in
            let r : Reply F G = Image g in
            let no : r ≡ Refused refusals.NoStream =
            subst (λ (o : Option (StreamState F)). MatchOption o (r ≡ Refused refusals.NoStream)
            (λ x. AllowsCollect measures is_image x r)) none l.1 in
            cc)
        | inr q ↦ rw q.1 (gave_nothing setup p s l.0 n)
      ]
  gave_nothing setup (Then p e r) s l n =
      gave_nothing setup p s l.0 (le_trans (length_admitted (λ spec. spec) e r (specs setup p)) n)

  -- nor by one that is new
  gave_new : (setup : Setup) (p : Transcript F G) (e : Event F) (r : Reply F G) (s : ℕ)
      → IsLegal measures is_image setup (Then p e r) → length (specs setup p) ≤ s → delivered s (Then p e r) ≡ []
  gave_new setup p (Admit spec) r s l n = gave_nothing setup p s l.0 n
  gave_new setup p e r s l n = gave_nothing setup (Then p e r) s l n

  -- an event that finds the stream there
  gave_on : (setup : Setup) (p : Transcript F G) (e : Event F) (r : Reply F G) (s : ℕ) (spec : StreamSpec)
      → IsWithin setup → IsLegal measures is_image setup (Then p e r) → slice_get (specs setup p) s ≡ Some spec
      → Gave spec (past setup s p) (delivered s p)
      → Gave spec (with_deed (deed s (now p) (held_below setup.workers p) e r) (past setup s p))
      (delivered s (Then p e r))
  gave_on setup p (Arrive u f) r s spec v l k before =
      gave_same spec (past setup s p) _ (delivered s p) (untaken_came (nat_eq u s) (now p) f r)
      (taken_within setup p s spec v l.0 k) before
  gave_on setup p (Lease w) r s spec v l k before =
      gave_same spec (past setup s p) _ (delivered s p) (untaken_lent s w r)
      (taken_within setup p s spec v l.0 k) before
  gave_on setup p (Band w) r s spec v l k before =
      gave_same spec (past setup s p) _ (delivered s p)
      (untaken_worked (has_stream s (held_below setup.workers p w)) r)
      (taken_within setup p s spec v l.0 k) before
  gave_on setup p (Settle w) r s spec v l k before =
      gave_same spec (past setup s p) _ (delivered s p)
      (untaken_settled (has_stream s (held_below setup.workers p w)) r)
      (taken_within setup p s spec v l.0 k) before
  gave_on setup p (Tick to) r s spec v l k before = before
  gave_on setup p (Close u) r s spec v l k before =
      gave_same spec (past setup s p) _ (delivered s p) (untaken_shut (nat_eq u s) r)
      (taken_within setup p s spec v l.0 k) before
  gave_on setup p (Collect u) (Image g) s spec v l k before =
      elim (same_or u s) [
        | inl q ↦ rw q.1 (gave_image setup p s spec g v
            (subst (λ (t : ℕ). IsLegal measures is_image setup (Then p (Collect t) (Image g))) q.0 l)
            k before)
        | inr q ↦ rw q.1 before
      ]
  gave_on setup p (Collect u) r s spec v l k before =
      gave_none spec (past setup s p) (nat_eq u s) (delivered s p) before
  gave_on setup p (Admit new) r s spec v l k before = before

  pub delivered_is : DeliveredLaw measures is_image
  delivered_is setup Start s spec v l k = tt
  delivered_is setup (Then p e r) s spec v l k =
      elim (spec_or setup p e r s spec k) [
        | inl old ↦ subst (λ (o : Option (Deed F)). Gave spec (with_deed o (past setup s p)) (delivered s (Then p e r)))
            (sym (next_is setup s p e r (slice_get_within (specs setup p) s spec old)))
            (gave_on setup p e r s spec v l old (delivered_is setup p s spec v l.0 old))
        | inr new ↦ subst (λ (h : List (Deed F)). Gave spec h (delivered s (Then p e r)))
            (sym (next_new setup s p e r new))
            (subst (λ (images : List G). Gave spec [] images) (sym (gave_new setup p e r s l new)) tt)
      ]

  pub charge_is : ChargeLaw measures is_image
  charge_is setup p s x v l k = ((sound measures is_image setup p v l).streams s x k).charged

  pub holder_is : HolderLaw measures is_image
  holder_is setup p s w x v l k =
      let h = sound measures is_image setup p v l in (
        λ q. h.holders s x w k q,
        λ q.
            let old = h.leases w q.0 q.1 in
            let same = one_item (state_of setup p).streams s q.0.stream x old.0 (sym q.2) k old.1 in
            ap (λ (y : StreamState F). y.holder) same ∙ old.2.holder,
      )
