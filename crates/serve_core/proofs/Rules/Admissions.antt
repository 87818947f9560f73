-- Streams that are tested and admitted one after the other.
use Rattle.std.proofs.Common.{ℕ, ◌+◌, ◌≡◌, ◌≤◌, All, List, [], ◌∷◌, ◌++◌, map, take, sum_by}
use Rattle.std.proofs.Common.{sym, ◌∙◌, ap, subst, arith, Some, slice_get}
use Rattle.std.proofs.lemmas.List.{map_push, take-map, take_more}
use Rattle.std.proofs.lemmas.List.Elements.{All-more}
use Rattle.std.proofs.lemmas.List.Sums.{sum_by_push, sum_by-take-le}
use Rattle.std.proofs.lemmas.Option.{get_or_from_slice_get, slice_get_within}
use Rattle.cbs_account.specs.Admission.{Fits, Load, share_of, with_share}
use Rattle.serve_core.specs.declared.setup.SetupError.{SetupError}
use Rattle.serve_core.specs.declared.setup.SetupError.TheVariants.{BadLimits, BadBandwidth, Overload}
use Rattle.serve_core.specs.Admitted.{IsRefusal}
use Rattle.serve_core.specs.Setup.{HasBandwidth, StreamSpec, load, reservation_of}
use Rattle.serve_core.proofs.Items.Lists.{all_at}
use Rattle.serve_core.proofs.Items.Options.{some_and}

-- what holds of the first items holds of one more
pub all_more : {X : Type 0} (P : X → Type 0) (xs : List X) (i : ℕ) (x : X) → slice_get xs i ≡ Some x
    → All P (take i xs) → P x → All P (take (i + 1) xs)
all_more P xs i x e before here =
    All-more P xs i x (slice_get_within xs i x e) before
    (subst P (sym (get_or_from_slice_get xs i x x e)) here)

same_load : (workers a b : ℕ) → a ≡ b
    → let v : Load = record { workers = workers; shares = a } in
    let w : Load = record { workers = workers; shares = b } in v ≡ w
same_load workers a b e = cc

-- one stream more adds its share
pub load_more : (workers s : ℕ) (xs : List StreamSpec) (x : StreamSpec) → slice_get xs s ≡ Some x
    → load workers (take (s + 1) xs) ≡ with_share x.maximum x.period (load workers (take s xs))
load_more workers s xs x e =
    let more : take (s + 1) xs ≡ take s xs ++ x ∷ [] =
    take_more xs s x (slice_get_within xs s x e)
    ∙ ap (λ y. take s xs ++ y ∷ []) (get_or_from_slice_get xs s x x e) in
    same_load workers _ _
    (ap (λ ys. sum_by share_of (map reservation_of ys)) more
    ∙ ap (sum_by share_of) (map_push reservation_of (take s xs) x)
    ∙ sum_by_push share_of (map reservation_of (take s xs)) (reservation_of x))

-- the first streams ask for no more than all
first_shares : (n : ℕ) (xs : List StreamSpec)
    → sum_by share_of (map reservation_of (take n xs)) ≤ sum_by share_of (map reservation_of xs)
first_shares n xs =
    subst (λ ys. sum_by share_of ys ≤ sum_by share_of (map reservation_of xs)) (take-map reservation_of n xs)
    (sum_by-take-le share_of (map reservation_of xs) n)

-- streams that are admitted together aren't refused one after the other
pub not_refused : (e : SetupError) (workers : ℕ) (xs : List StreamSpec) → IsRefusal e workers xs
    → All HasBandwidth xs → Fits (load workers xs) → ⊥
not_refused BadLimits workers xs h all fits = h
not_refused (BadBandwidth s) workers xs h all fits =
    let x = some_and (slice_get xs s) _ h.1 in
    x.2 (all_at HasBandwidth xs s x.0 all x.1)
not_refused (Overload s) workers xs h all fits =
    h.2 (let fewer = first_shares (s + 1) xs in omega (arith, fewer, fits))
