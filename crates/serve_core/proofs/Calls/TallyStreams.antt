-- What a close, a collection and an admission make of a tally, and a retirement.
use Rattle.std.proofs.Common.{ℕ, ◌≡◌, ◌≤◌, ◌<◌, Bool, true, false, List, []}
use Rattle.std.proofs.Common.{◌∷◌, length, Option, Some, None, MatchOption, slice_get, slice_set, nat_lt}
use Rattle.std.proofs.Common.{if◌then◌else◌, refl, sym, ◌∙◌, ap, subst, arith}
use Rattle.std.proofs.Common.{◌++◌, filter, not}
use Rattle.serve_core.specs.declared.held.Held.{Held}
use Rattle.serve_core.specs.declared.refusal.Refusal.TheVariants as refusals
use Rattle.serve_core.specs.Bare.{Blank, measures_any, is_any_image}
use Rattle.serve_core.specs.Counts.{Shut, Taken}
use Rattle.serve_core.specs.Events.{Close, Closing, Collect, Image}
use Rattle.serve_core.specs.Events.{Admit, Admitted}
use Rattle.serve_core.specs.Events.{Refused, Reply}
use Rattle.serve_core.specs.Released.{is_released, unreleased}
use Rattle.serve_core.specs.Retired.{AreFree}
use Rattle.serve_core.specs.Rules.{AllowsCollect}
use Rattle.serve_core.specs.Rules.{close_reply}
use Rattle.serve_core.specs.Setup.{StreamSpec}
use Rattle.serve_core.specs.States.{State, StreamState, did, new_stream}
use Rattle.serve_core.specs.Tally.{IsRightReply}
use Rattle.serve_core.proofs.Events.Changes.{after_close, after_collect}
use Rattle.serve_core.proofs.Events.Changes.{after_admit}
use Rattle.serve_core.proofs.Events.Soundness.{image_facts, one_item}
use Rattle.serve_core.proofs.Events.Steps.{state}
use Rattle.serve_core.proofs.Events.Turns.{tested_lt}
use Rattle.serve_core.proofs.Items.Options.{and_some}
use Rattle.serve_core.proofs.Transcripts.Alone.{retire_is}
use Rattle.serve_core.proofs.Calls.Tallies.{Reached, Went, less, reached_sound, went}

-- closes
closing_test : (b : Bool) → let r : Reply Blank Blank = Closing in
    r ≡ (if b then Refused refusals.AlreadyClosed else Closing) → b ≡ false
closing_test true h = absurd (cc)
closing_test false h = refl

close_by : (o : Option (StreamState Blank)) → let r : Reply Blank Blank = Closing in
    MatchOption o (r ≡ Refused refusals.NoStream) (λ x. r ≡ close_reply x)
    → (x : StreamState Blank) × (o ≡ Some x) × (x.is_closed ≡ false)
close_by None h = absurd (cc)
close_by (Some x) h = (x, refl, closing_test x.is_closed h)

pub close_facts : (m : State Blank) (s : ℕ) → IsRightReply m (Close s) Closing
    → (x : StreamState Blank) × (slice_get m.streams s ≡ Some x) × (x.is_closed ≡ false)
close_facts m s a = close_by (slice_get m.streams s) a

pub close_right : (m : State Blank) (s : ℕ) (x : StreamState Blank) → slice_get m.streams s ≡ Some x
    → x.is_closed ≡ false → IsRightReply m (Close s) Closing
close_right m s x e f = rw e (rw f refl)

pub close_went : (m : State Blank) (s : ℕ) (x y : StreamState Blank) → Reached m → slice_get m.streams s ≡ Some x
    → IsRightReply m (Close s) Closing → y ≡ did x Shut
    → Went m (Close s) Closing (state m.clock m.quantum (slice_set m.streams s y) m.workers)
close_went m s x y h e a same =
    let r : Reply Blank Blank = Closing in
    went m _ (Close s) r h a
    (ap (λ (y : StreamState Blank). state m.clock m.quantum (slice_set m.streams s y) m.workers) same
    ∙ after_close Blank m s r x e)

-- collections
collect_by : (o : Option (StreamState Blank)) → let r : Reply Blank Blank = Image tt in
    MatchOption o (r ≡ Refused refusals.NoStream) (λ x. AllowsCollect measures_any is_any_image x r)
    → (x : StreamState Blank) × (o ≡ Some x) × (x.collected < x.finished)
collect_by None h = absurd (cc)
collect_by (Some x) h = (x, refl, (image_facts measures_any is_any_image x tt h).0)

pub collect_facts : (m : State Blank) (s : ℕ) → IsRightReply m (Collect s) (Image tt)
    → (x : StreamState Blank) × (slice_get m.streams s ≡ Some x) × (x.collected < x.finished)
collect_facts m s a = collect_by (slice_get m.streams s) a

some_frame : (fs : List Blank) → 1 ≤ length fs → slice_get fs 0 ≡ Some tt
some_frame [] l = absurd (omega (arith, l))
some_frame (f ∷ fs) l = refl

pub collect_right : (m : State Blank) (s : ℕ) (x : StreamState Blank) → Reached m → slice_get m.streams s ≡ Some x
    → x.collected < x.finished → IsRightReply m (Collect s) (Image tt)
collect_right m s x h e l =
    let own = (reached_sound m h).streams s x e in
    let one = some_frame x.frames (omega (arith, own.frames, own.finished, l)) in
    rw e (rw (less x.collected x.finished l) (and_some (slice_get x.frames 0) _ tt one (tt, tt, refl)))

pub collect_went : (m : State Blank) (s : ℕ) (x y : StreamState Blank) → Reached m → slice_get m.streams s ≡ Some x
    → IsRightReply m (Collect s) (Image tt) → y ≡ did x Taken
    → Went m (Collect s) (Image tt) (state m.clock m.quantum (slice_set m.streams s y) m.workers)
collect_went m s x y h e a same =
    let r : Reply Blank Blank = Image tt in
    went m _ (Collect s) r h a
    (ap (λ (y : StreamState Blank). state m.clock m.quantum (slice_set m.streams s y) m.workers) same
    ∙ after_collect Blank m s r x e)

-- whether a stream that is there gives an image
pub may_collect_is : (m k : State Blank) (s : ℕ) (x : StreamState Blank) (b : Bool) → Reached m → m ≡ k
    → slice_get m.streams s ≡ Some x → b ≡ nat_lt x.collected x.finished
    → (b ≡ true → IsRightReply k (Collect s) (Image tt)) × (IsRightReply k (Collect s) (Image tt) → b ≡ true)
may_collect_is m k s x b h v e t =
    subst (λ (k : State Blank). (b ≡ true → IsRightReply k (Collect s) (Image tt)) × (IsRightReply k (Collect s) (Image tt) → b ≡ true))
    v (
      λ passes. collect_right m s x h e (tested_lt x.collected x.finished (sym t ∙ passes)),
      λ a.
          let f = collect_facts m s a in
          let same : f.0 ≡ x = one_item m.streams s s f.0 x refl f.1 e in
          t ∙ less x.collected x.finished (subst (λ (y : StreamState Blank). y.collected < y.finished) same f.2),
    )

-- admissions
pub admit_went : (m : State Blank) (spec : StreamSpec) (s : ℕ) (x : StreamState Blank) (rows : List (StreamState Blank))
    → Reached m → IsRightReply m (Admit spec) (Admitted s) → x ≡ new_stream spec → rows ≡ m.streams ++ x ∷ []
    → Went m (Admit spec) (Admitted s) (state m.clock m.quantum rows m.workers)
admit_went m spec s x rows h a new behind =
    let r : Reply Blank Blank = Admitted s in
    went m _ (Admit spec) r h a
    (ap (λ (rows : List (StreamState Blank)). state m.clock m.quantum rows m.workers)
    (behind ∙ ap (λ (x : StreamState Blank). m.streams ++ x ∷ []) new)
    ∙ after_admit Blank m spec s)

-- released streams are taken out
abbrev pub CanRetire : State Blank → Type 0
CanRetire m = AreFree m.workers × (1 ≤ length (unreleased m))

pub retire_decides : (m k : State Blank) (rows : List (StreamState Blank)) (hs : List (Option Held)) (b : Bool) → m ≡ k
    → hs ≡ m.workers → rows ≡ m.streams → AreFree hs
    → ((b ≡ true → 1 ≤ length (filter (λ x. not (is_released m.clock x)) rows))
    × (1 ≤ length (filter (λ x. not (is_released m.clock x)) rows) → b ≡ true))
    → (b ≡ true → CanRetire k) × (CanRetire k → b ≡ true)
retire_decides m k rows hs b v w r free test =
    let test : (b ≡ true → 1 ≤ length (unreleased m)) × (1 ≤ length (unreleased m) → b ≡ true) =
    subst (λ (rows : List (StreamState Blank)).
    (b ≡ true → 1 ≤ length (filter (λ x. not (is_released m.clock x)) rows))
    × (1 ≤ length (filter (λ x. not (is_released m.clock x)) rows) → b ≡ true)) r test in
    subst (λ (k : State Blank). (b ≡ true → CanRetire k) × (CanRetire k → b ≡ true)) v (
      λ passes. (subst AreFree w free, test.0 passes),
      λ can. test.1 can.1,
    )

pub retire_not : (m k : State Blank) (hs : List (Option Held)) → m ≡ k → hs ≡ m.workers → (AreFree hs → ⊥)
    → (false ≡ true → CanRetire k) × (CanRetire k → false ≡ true)
retire_not m k hs v w not = (
  λ passes. absurd (cc),
  λ can. absurd (not (subst AreFree (sym (w ∙ ap (λ (m : State Blank). m.workers) v)) can.0)),
)

pub retire_went : (m k : State Blank) (rows : List (StreamState Blank)) → Reached m → m ≡ k → CanRetire k
    → rows ≡ unreleased m → Reached (state m.clock m.quantum rows m.workers)
retire_went m k rows h v can same =
    let can : CanRetire m = subst CanRetire (sym v) can in
    subst (λ (rows : List (StreamState Blank)). Reached (state m.clock m.quantum rows m.workers)) (sym same)
    (retire_is measures_any is_any_image m h can.0 can.1)
