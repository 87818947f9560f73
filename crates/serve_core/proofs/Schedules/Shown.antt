-- One stream of a schedule after another, and the pool that shows them.
use Rattle.std.proofs.Common.{ℕ, zero, suc, ◌≡◌, ◌<◌, IsSomeAnd, List, [], ◌∷◌, Option, Some, slice_get}
use Rattle.std.proofs.Common.{None, replicate, slice_set, get_or, length, map, refl, sym, ◌∙◌, ap, subst, arith}
use Rattle.std.proofs.lemmas.List.{length-map, map-set}
use Rattle.std.proofs.lemmas.Option.{slice_get_within}
use Rattle.edf_pool.specs.Earliest.{IsEarliest}
use Rattle.serve_core.specs.Schedule.{ScheduleValue, ready_deadlines, with_stream_at}
use Rattle.serve_core.specs.Setup.{StreamSpec}
use Rattle.serve_core.specs.States.{ready_deadline}
use Rattle.serve_core.specs.Streams.{KeptStream, opened}

-- the item that is read at a place is the one that is there
pub item_here : {X : Type 0} (P : X → Type 0) (xs : List X) (i : ℕ) (x : X) → IsSomeAnd (slice_get xs i) P
    → x ≡ get_or xs i x → (slice_get xs i ≡ Some x) × P x
item_here P [] i x h e = absurd h
item_here P (y ∷ xs) zero x h e = (ap Some (sym e), subst P (sym e) h)
item_here P (y ∷ xs) (suc i) x h e = item_here P xs i x h e

-- and it is within the list that is shown
pub within_shown : (pool : List (Option ℕ)) (streams : List KeptStream) (s : ℕ) (stream : KeptStream) → pool ≡ ready_deadlines streams
    → slice_get streams s ≡ Some stream → s < length pool
within_shown pool streams s stream shown here =
    let all = length-map streams (λ (stream : KeptStream). ready_deadline stream.state) in
    omega (arith, ap length shown, all, slice_get_within streams s stream here)

-- a stream that changed is shown again
pub shown_again : (pool : List (Option ℕ)) (streams : List KeptStream) (s : ℕ) (stream : KeptStream) → pool ≡ ready_deadlines streams
    → slice_set pool s (ready_deadline stream.state) ≡ ready_deadlines (slice_set streams s stream)
shown_again pool streams s stream shown =
    ap (λ (shown : List (Option ℕ)). slice_set shown s (ready_deadline stream.state)) shown
    ∙ sym (map-set (λ (stream : KeptStream). ready_deadline stream.state) streams s stream)

-- a stream in its own place changes nothing
item_kept : {X : Type 0} (xs : List X) (i : ℕ) (x : X) → slice_get xs i ≡ Some x → slice_set xs i x ≡ xs
item_kept [] i x e = refl
item_kept (y ∷ xs) zero x e = cc
item_kept (y ∷ xs) (suc i) x e = ap (λ ys. y ∷ ys) (item_kept xs i x e)

pub put_again : (s : ℕ) (stream : KeptStream) (x : ScheduleValue) → slice_get x.streams s ≡ Some stream
    → with_stream_at s stream x ≡ x
put_again s stream x here = ap (λ (streams : List KeptStream). record x { streams = streams }) (item_kept x.streams s stream here)

-- the stream with the earliest deadline is one of the streams
pub earliest_within : (streams : List KeptStream) (s : ℕ) → IsEarliest (ready_deadlines streams) s → s < length streams
earliest_within streams s h =
    let all = length-map streams (λ (stream : KeptStream). ready_deadline stream.state) in
    omega (arith, all, slice_get_within (ready_deadlines streams) s (Some h.deadline) h.ready)

-- no stream is ready that has had no frame
pub none_ready : (specs : List StreamSpec) → replicate (length specs) None ≡ ready_deadlines (map opened specs)
none_ready [] = refl
none_ready (spec ∷ specs) = ap (λ (shown : List (Option ℕ)). None ∷ shown) (none_ready specs)
