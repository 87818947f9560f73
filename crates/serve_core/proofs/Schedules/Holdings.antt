-- The shares that the streams of a schedule hold, one after the other.
use Rattle.std.proofs.Common.{ℕ, ◌+◌, ◌≡◌, ◌≤◌, ◌*◌, List, [], ◌∷◌, ◌++◌, take, sum_by, None, Option, Some, slice_get}
use Rattle.std.proofs.Common.{sym, ◌∙◌, ap, arith}
use Rattle.std.proofs.lemmas.List.{map_push, take_more}
use Rattle.std.proofs.lemmas.List.Sums.{sum_by_push, sum_by-take-le}
use Rattle.std.proofs.lemmas.Option.{get_or_from_slice_get, slice_get_within}
use Rattle.cbs_account.specs.Admission.{Fits, Load}
use Rattle.serve_core.specs.Released.{held_share, with_held_share}
use Rattle.serve_core.specs.Schedule.{ready_deadlines, held_of_streams}
use Rattle.serve_core.specs.States.{ready_deadline}
use Rattle.serve_core.specs.Streams.{KeptStream}

same_load : (workers a b : ℕ) → a ≡ b
    → let v : Load = record { workers = workers; shares = a } in
    let w : Load = record { workers = workers; shares = b } in v ≡ w
same_load workers a b e = cc

-- one stream more adds the share that it holds
pub held_more : (workers t i : ℕ) (streams : List KeptStream) (stream : KeptStream) → slice_get streams i ≡ Some stream
    → with_held_share t stream.state (held_of_streams workers t (take i streams)) ≡ held_of_streams workers t (take (i + 1) streams)
held_more workers t i streams stream e =
    let f = λ (stream : KeptStream). held_share t stream.state in
    let more : take (i + 1) streams ≡ take i streams ++ stream ∷ [] =
    take_more streams i stream (slice_get_within streams i stream e)
    ∙ ap (λ y. take i streams ++ y ∷ []) (get_or_from_slice_get streams i stream stream e) in
    same_load workers _ _ (sym (ap (sum_by f) more ∙ sum_by_push f (take i streams) stream))

-- the first streams hold no more than all
pub fits_first : (workers t n : ℕ) (streams : List KeptStream) → Fits (held_of_streams workers t streams)
    → Fits (held_of_streams workers t (take n streams))
fits_first workers t n streams fits =
    let fewer = sum_by-take-le (λ (stream : KeptStream). held_share t stream.state) streams n in
    let all : sum_by (λ (stream : KeptStream). held_share t stream.state) streams ≤ 1000000 * workers = fits in
    omega (arith, fewer, all)

-- the pool shows one stream more, which isn't ready
pub shown_more : (pool : List (Option ℕ)) (streams : List KeptStream) (stream : KeptStream) → pool ≡ ready_deadlines streams
    → ready_deadline stream.state ≡ None → pool ++ None ∷ [] ≡ ready_deadlines (streams ++ stream ∷ [])
shown_more pool streams stream shown idle =
    ap (λ (ds : List (Option ℕ)). ds ++ None ∷ []) shown
    ∙ ap (λ (d : Option ℕ). ready_deadlines streams ++ d ∷ []) (sym idle)
    ∙ sym (map_push (λ (stream : KeptStream). ready_deadline stream.state) streams stream)
