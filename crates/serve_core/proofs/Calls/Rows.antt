-- The streams of a tally: before any event, the shares that they hold, and those that stay.
use Rattle.std.proofs.Common.{ℕ, zero, suc, ◌+◌, ◌*◌, ◌≡◌, ◌≤◌, ◌<◌, ◌⊎◌, inl, inr, Bool, true, false, List, [], ◌∷◌}
use Rattle.std.proofs.Common.{◌++◌, filter, length, map, replicate, sum_by, take, Option, Some, None, slice_get}
use Rattle.std.proofs.Common.{refl, sym, ◌∙◌, ap, subst, arith}
use Rattle.std.proofs.lemmas.List.{take_more}
use Rattle.std.proofs.lemmas.List.Sums.{sum_by_push, sum_by-take-le}
use Rattle.std.proofs.lemmas.Option.{get_or_from_slice_get, slice_get_within}
use Rattle.cbs_account.specs.Admission.{Fits, Load}
use Rattle.serve_core.specs.declared.held.Held.{Held}
use Rattle.serve_core.specs.Bare.{Blank, measures_any, is_any_image}
use Rattle.serve_core.specs.Counts.{held, history}
use Rattle.serve_core.specs.Events.{Start, Transcript}
use Rattle.serve_core.specs.Leads.{opening_state}
use Rattle.serve_core.specs.Reached.{IsReached}
use Rattle.serve_core.specs.Released.{held_share, with_held_share}
use Rattle.serve_core.specs.Setup.{IsSetup, Setup, StreamSpec}
use Rattle.serve_core.specs.States.{State, StreamState, map_at, new_stream, stream_of}
use Rattle.serve_core.specs.Tally.{held_of_rows}
use Rattle.serve_core.proofs.Events.Steps.{state, state_is}

rows_opened : (setup : Setup) (i : ℕ) (specs : List StreamSpec) → let none : Transcript Blank Blank = Start in
    map new_stream specs ≡ map_at i (λ s spec. stream_of spec (history setup s none)) specs
rows_opened setup i [] = refl
rows_opened setup i (spec ∷ specs) =
    ap (λ (xs : List (StreamState Blank)). new_stream spec ∷ xs) (rows_opened setup (suc i) specs)

workers_opened : (i n : ℕ) → let none : Transcript Blank Blank = Start in
    replicate n None ≡ map_at {X = ℕ} i (λ w zero. held w none) (replicate n 0)
workers_opened i zero = refl
workers_opened i (suc n) = ap (λ (hs : List (Option Held)). None ∷ hs) (workers_opened (suc i) n)

pub opened_is : (setup : Setup) (rows : List (StreamState Blank)) (workers : List (Option Held))
    → rows ≡ map new_stream setup.streams → workers ≡ replicate setup.workers None
    → state 0 setup.quantum rows workers ≡ opening_state Blank Blank setup
opened_is setup rows workers e f =
    state_is 0 setup.quantum _ _ _ _ (e ∙ rows_opened setup 0 setup.streams) (f ∙ workers_opened 0 setup.workers)

pub reached_opening : (setup : Setup) (m : State Blank) → IsSetup setup → m ≡ opening_state Blank Blank setup
    → IsReached measures_any is_any_image m
reached_opening setup m is e =
    record { setup = setup; is_setup = is; past = Start; legal = tt; state = sym e }

same_load : (workers a b : ℕ) → a ≡ b
    → let v : Load = record { workers = workers; shares = a } in
    let w : Load = record { workers = workers; shares = b } in v ≡ w
same_load workers a b e = cc

-- one stream more adds the share that it holds
pub rows_more : (workers t i : ℕ) (rows : List (StreamState Blank)) (x : StreamState Blank) → slice_get rows i ≡ Some x
    → with_held_share t x (held_of_rows workers t (take i rows)) ≡ held_of_rows workers t (take (i + 1) rows)
rows_more workers t i rows x e =
    let more : take (i + 1) rows ≡ take i rows ++ x ∷ [] =
    take_more rows i x (slice_get_within rows i x e)
    ∙ ap (λ y. take i rows ++ y ∷ []) (get_or_from_slice_get rows i x x e) in
    same_load workers _ _ (sym (ap (sum_by (held_share t)) more ∙ sum_by_push (held_share t) (take i rows) x))

-- the first streams hold no more than all
pub rows_fit : (workers t n : ℕ) (rows : List (StreamState Blank)) → Fits (held_of_rows workers t rows)
    → Fits (held_of_rows workers t (take n rows))
rows_fit workers t n rows fits =
    let fewer = sum_by-take-le (held_share t) rows n in
    let all : sum_by (held_share t) rows ≤ 1000000 * workers = fits in
    omega (arith, fewer, all)

filter_in : {X : Type 0} (test : X → Bool) (x : X) (xs : List X) → test x ≡ true
    → filter test (x ∷ xs) ≡ x ∷ filter test xs
filter_in test x xs e = rw e refl

filter_out : {X : Type 0} (test : X → Bool) (x : X) (xs : List X) → test x ≡ false
    → filter test (x ∷ xs) ≡ filter test xs
filter_out test x xs e = rw e refl

true_or : (b : Bool) → (b ≡ true) ⊎ (b ≡ false)
true_or true = inl refl
true_or false = inr refl

-- one that passes is among those that do
pub some_pass : {X : Type 0} (test : X → Bool) (xs : List X) (i : ℕ) (x : X) → slice_get xs i ≡ Some x
    → test x ≡ true → 1 ≤ length (filter test xs)
some_pass test [] i x e t = absurd (cc)
some_pass test (y ∷ xs) zero x e t =
    let same : y ≡ x = cc in
    let passes : test y ≡ true = rw same t in
    omega (arith, ap length (filter_in test y xs passes))
some_pass test (y ∷ xs) (suc i) x e t =
    let rest = some_pass test xs i x e t in
    elim (true_or (test y)) [
      | inl p ↦ omega (arith, ap length (filter_in test y xs p))
      | inr p ↦ omega (arith, ap length (filter_out test y xs p), rest)
    ]

-- where none passes there is none
pub none_pass : {X : Type 0} (test : X → Bool) (xs : List X)
    → ((i : ℕ) (x : X) → slice_get xs i ≡ Some x → test x ≡ false) → length (filter test xs) ≡ 0
none_pass test [] h = refl
none_pass test (y ∷ xs) h =
    ap length (filter_out test y xs (h 0 y refl)) ∙ none_pass test xs (λ i x e. h (suc i) x e)

same_or_less : (t n : ℕ) → t < n + 1 → (t ≡ n) ⊎ (t < n)
same_or_less t n l = grind arith

-- what holds of each item below n, and of that at n, holds of each below n + 1
pub each_more : {X : Type 0} (P : X → Type 0) (xs : List X) (n : ℕ) (x : X) → slice_get xs n ≡ Some x → P x
    → ((i : ℕ) (y : X) → i < n → slice_get xs i ≡ Some y → P y)
    → (i : ℕ) (y : X) → i < n + 1 → slice_get xs i ≡ Some y → P y
each_more P xs n x e p h i y l f =
    elim (same_or_less i n l) [
      | inl q ↦ subst P (let g : slice_get xs n ≡ Some y = rw q at f in let same : x ≡ y = cc in same) p
      | inr q ↦ h i y q f
    ]
