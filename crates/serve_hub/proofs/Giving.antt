-- Images that are given with the oldest frame that a seat keeps.
use Rattle.std.proofs.Common.{ℕ, ◌≡◌, ◌<◌, List, [], ◌∷◌, drop, length, Some, slice_get, slice_index_or, sym, ◌∙◌, ◌-◌, refl}
use Rattle.std.proofs.Common.{ap, arith, subst, ◌≢◌, IfErr, IfOk, OnOk, Ok, Err, None, Option, Result, MatchOption, MatchResult}
use Rattle.std.proofs.lemmas.Option.{slice_get_within}
use Rattle.frame_view.specs.declared.geometry.Geometry.{Geometry}
use Rattle.filters.specs.declared.op.Op.{Op}
use Rattle.filters.specs.Chain.{format_of, last_format}
use Rattle.filters.specs.ChainImage.{FrameValue, IsImageByAll, value_of}
use Rattle.serve_core.specs.declared.collected.Collected.{Collected}
use Rattle.serve_core.specs.Streams.{source_in}
use Rattle.serve_hub.specs.declared.entry.Act.TheVariants as acts
use Rattle.serve_hub.specs.declared.refusal.Refusal.{Refusal}
use Rattle.serve_hub.specs.declared.refused.CollectRefused.{CollectRefused}
use Rattle.serve_hub.specs.Calls.{Collects, Gives, GivesOther, IsCollectRefused, IsCollectTold, IsOldest, IsOther, after_refusal}
use Rattle.serve_hub.specs.Calls.{gives_up}
use Rattle.serve_hub.proofs.Moving.{sum_more}
use Rattle.serve_hub.specs.Seats.{StreamSeatValue, collected_by, one_collection, torn_at, with_call}

-- an image has the size that the operations make of its frame's
image_format : (ops : List Op) (source image : FrameValue) → IsImageByAll ops source image
    → format_of image.geometry ≡ last_format ops (format_of source.geometry)
image_format [] source image e = ap (λ (v : FrameValue). format_of v.geometry) e
image_format (op ∷ ops) source image all =
    image_format ops all.0 image all.2 ∙ ap (last_format ops) all.1.geometry.format

first_rest : {X : Type 0} (xs : List X) (x : X) → slice_get xs 0 ≡ Some x → xs ≡ x ∷ drop 1 xs
first_rest [] x e = absurd (omega (arith, slice_get_within [] 0 x e))
first_rest (y ∷ ys) x e = let same : y ≡ x = cc in ap (λ z. z ∷ ys) same

-- what was collected stays so where the seat then gives its oldest frame up
collects_up : (pair : Collected) (old mid new : StreamSeatValue) → Collects pair old mid → mid.kept ≡ old.kept
    → new ≡ gives_up mid → Collects pair old new
collects_up pair old mid new x same up =
    let kept : new.kept ≡ drop 1 mid.kept = ap (λ (v : StreamSeatValue). v.kept) up in record {
      number = x.number;
      image = x.image;
      seat = up ∙ ap gives_up x.seat
          ∙ ap (λ (k : List FrameValue). record old {
            calls = with_call (acts.Collected x.number) old.calls;
            kept = k;
          }) (sym kept);
    }

-- an image was collected, and then its source compared
pub gives : (pair : Collected) (old mid new : StreamSeatValue) → Collects pair old mid → mid.kept ≡ old.kept
    → IsOldest pair mid → (source_in pair).geometry ≡ mid.chain.geometry → new ≡ gives_up mid
    → Gives pair old new
gives pair old mid new x same oldest sized up =
    let kept : new.kept ≡ drop 1 mid.kept = ap (λ (v : StreamSeatValue). v.kept) up in
    let chain : mid.chain ≡ old.chain = ap (λ (v : StreamSeatValue). v.chain) x.seat in record {
      collects = collects_up pair old mid new x same up;
      oldest = sym same ∙ first_rest mid.kept (source_in pair) oldest ∙ ap (λ (k : List FrameValue). source_in pair ∷ k) (sym kept);
      source = sized ∙ ap (λ (v : StreamSeatValue). v.chain.geometry) x.seat;
      size = image_format old.chain.ops (source_in pair) (value_of pair.image) x.image.by_all
          ∙ ap (λ (g : Geometry). last_format old.chain.ops (format_of g))
          (sized ∙ ap (λ (v : StreamSeatValue). v.chain.geometry) x.seat);
    }

-- the oldest of frames of one size
pub oldest_sized : (pair : Collected) (g : Geometry) (kept : List FrameValue)
    → ((k : ℕ) (d : FrameValue) → k < length kept → (slice_index_or kept k d).geometry ≡ g)
    → slice_get kept 0 ≡ Some (source_in pair) → (source_in pair).geometry ≡ g
oldest_sized pair g [] all e = absurd (omega (arith, slice_get_within [] 0 (source_in pair) e))
oldest_sized pair g (f ∷ fs) all e =
    let same : f ≡ source_in pair = cc in
    subst (λ (v : FrameValue). v.geometry ≡ g) same (all 0 f (omega arith))

-- what was collected and compared is given
pub given : (answer : Result Collected Refusal) (result : Result Collected CollectRefused)
    (old mid new : StreamSeatValue) → IfOk answer (λ pair. Collects pair old mid)
    → OnOk answer (mid.kept ≡ old.kept)
    → IfOk result (λ pair. (answer ≡ Ok pair) × IsOldest pair mid × (new ≡ gives_up mid))
    → IfOk result (λ pair. (source_in pair).geometry ≡ mid.chain.geometry)
    → IfOk result (λ pair. Gives pair old new)
given answer (Ok pair) old mid new a k r s =
    gives pair old mid new
    (subst (λ (x : Result Collected Refusal). IfOk x (λ p. Collects p old mid)) r.0 a)
    (subst (λ (x : Result Collected Refusal). OnOk x (mid.kept ≡ old.kept)) r.0 k) r.1 s r.2
given answer (Err e) old mid new a k r s = tt

-- how many were collected before
one_fewer : (pair : Collected) (old mid : StreamSeatValue) → Collects pair old mid → collected_by mid - 1 ≡ collected_by old
one_fewer pair old mid x = omega (
  arith,
  ap collected_by x.seat,
  sum_more one_collection old.calls.list (acts.Collected x.number),
)

-- what was collected and compared is refused
pub refused : (answer : Result Collected Refusal) (result : Result Collected CollectRefused)
    (old mid new : StreamSeatValue) → IfOk answer (λ pair. Collects pair old mid)
    → OnOk answer (mid.kept ≡ old.kept) → IfErr answer (λ e. IsCollectTold old e × (mid ≡ old))
    → IfErr result (λ e. MatchResult answer (λ pair. IsOther pair e mid × (new ≡ torn_at (collected_by mid - 1) (gives_up mid)))
    (λ refusal. (e.refusal ≡ refusal) × (e.pair ≡ None) × (new ≡ after_refusal refusal mid)))
    → IfErr result (λ e. IsCollectRefused e old new)
refused answer (Ok pair) old mid new a k t r = tt
refused (Ok pair) (Err e) old mid new a k t r =
    subst (λ (p : Option Collected).
    MatchOption p (IsCollectTold old e.refusal × (new ≡ after_refusal e.refusal old)) (λ p. GivesOther p e old new))
    (sym r.0.1)
    (record {
      mid = gives_up mid;
      collects = collects_up pair old mid (gives_up mid) a k refl;
      other = (subst (λ (l : List FrameValue). slice_get l 0 ≢ Some (source_in pair)) k r.0.0, r.0.1, r.0.2);
      kept = ap (λ (l : List FrameValue). drop 1 l) k;
      noted = r.1 ∙ ap (λ n. torn_at n (gives_up mid)) (one_fewer pair old mid a);
    })
refused (Err refusal) (Err e) old mid new a k t r =
    subst (λ (p : Option Collected).
    MatchOption p (IsCollectTold old e.refusal × (new ≡ after_refusal e.refusal old)) (λ p. GivesOther p e old new))
    (sym r.1)
    (subst (λ (x : Refusal). IsCollectTold old x × (new ≡ after_refusal x old)) (sym r.0)
    (t.0, r.2 ∙ ap (λ (v : StreamSeatValue). after_refusal refusal v) t.1))
