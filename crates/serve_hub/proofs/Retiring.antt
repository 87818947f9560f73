-- What an epoch leaves where its released streams are taken out.
use Rattle.std.proofs.Common.{ℕ, zero, suc, ◌+◌, ◌≡◌, ◌≤◌, ◌<◌, inl, inr, Bool, true, false, not, refl, sym, ◌∙◌}
use Rattle.std.proofs.Common.{if◌then◌else◌, ap, subst, arith, List, [], ◌∷◌, length, map, filter, sum_by, Option}
use Rattle.std.proofs.Common.{Some, None, get_or, slice_get, slice_set}
use Rattle.std.proofs.lemmas.List.{length-map}
use Rattle.std.proofs.lemmas.List.Elements.{filter_passes}
use Rattle.std.proofs.lemmas.List.Sums.{sum_by-cons}
use Rattle.std.proofs.lemmas.Option.{slice_get_within}
use Rattle.serve_core.specs.Bare.{measures_any, is_any_image}
use Rattle.serve_core.specs.Desk.{desk_state}
use Rattle.serve_core.specs.Reached.{IsReached}
use Rattle.serve_core.specs.Released.{is_released}
use Rattle.serve_core.specs.Retired.{retired_schedule, stays, stays_at}
use Rattle.serve_core.specs.Schedule.{ScheduleValue}
use Rattle.serve_core.specs.Sound.{Sound}
use Rattle.serve_core.specs.Streams.{KeptStream}
use Rattle.serve_core.proofs.Events.Kept.{sound}
use Rattle.serve_core.proofs.Events.Releases.{released_facts}
use Rattle.serve_core.proofs.Items.Lists.{all_at, slice_get_here}
use Rattle.serve_core.proofs.Items.Picks.{true_or}
use Rattle.serve_hub.specs.Books.{one_open, one_out, reserved}
use Rattle.serve_hub.specs.Retired.{renumbered, rests_kept}
use Rattle.serve_hub.specs.Seats.{StreamRest}

-- an item that passed a test passes it
pub filter_at : {X : Type 0} (test : X → Bool) (xs : List X) (s : ℕ) (x : X) → slice_get (filter test xs) s ≡ Some x
    → test x ≡ true
filter_at test xs s x e = all_at (λ y. test y ≡ true) (filter test xs) s x (filter_passes test xs) e

pub filter_in : {X : Type 0} (test : X → Bool) (x : X) (xs : List X) → test x ≡ true
    → filter test (x ∷ xs) ≡ x ∷ filter test xs
filter_in test x xs e = rw e refl

filter_out : {X : Type 0} (test : X → Bool) (x : X) (xs : List X) → test x ≡ false
    → filter test (x ∷ xs) ≡ filter test xs
filter_out test x xs e = rw e refl

-- what is reached is sound
pub reached_sound : (x : ScheduleValue) → IsReached measures_any is_any_image (desk_state x) → Sound (desk_state x)
reached_sound x r = subst Sound r.state (sound measures_any is_any_image r.setup r.past r.is_setup.0 r.legal)

stays_within_at : (moment : ℕ) (xs : List KeptStream) (s : ℕ) (o : Option KeptStream) → slice_get xs s ≡ o
    → stays_at moment o ≡ true → s ≤ length xs
stays_within_at moment xs s None e h = absurd (cc)
stays_within_at moment xs s (Some stream) e h = let within = slice_get_within xs s stream e in omega (arith, within)

-- a stream that stays is there
pub stays_within : (x : ScheduleValue) (s : ℕ) → stays x s ≡ true → s ≤ length x.streams
stays_within x s h = stays_within_at x.clock x.streams s (slice_get x.streams s) refl h

no_close : (b : Bool) → b ≡ true → let n : ℕ = if b then 0 else 1 in n ≡ 0
no_close true e = refl
no_close false e = absurd (cc)

not_then : (b : Bool) → not b ≡ false → b ≡ true
not_then true e = refl
not_then false e = absurd (cc)

-- a released stream is closed: no entry is reserved for it
open_kept : (moment : ℕ) (xs : List KeptStream)
    → sum_by one_open (filter (λ stream. not (is_released moment stream.state)) xs) ≡ sum_by one_open xs
open_kept moment [] = refl
open_kept moment (x ∷ xs) =
    let test = λ (stream : KeptStream). not (is_released moment stream.state) in
    let rest = open_kept moment xs in
    let whole = sum_by-cons one_open x xs in
    elim (true_or (test x)) [
      | inl e ↦
          let first = ap (sum_by one_open) (filter_in test x xs e) in
          let more = sum_by-cons one_open x (filter test xs) in
          omega (arith, first, more, rest, whole)
      | inr e ↦
          let first = ap (sum_by one_open) (filter_out test x xs e) in
          let none : one_open x ≡ 0 =
          no_close x.state.is_closed
          (released_facts moment x.state (not_then (is_released moment x.state) e)).0 in
          omega (arith, first, rest, whole, none)
    ]

pub reserved_kept : (x : ScheduleValue) → reserved (retired_schedule x) ≡ reserved x
reserved_kept x = ap (λ (n : ℕ). sum_by one_out x.workers + n) (open_kept x.clock x.streams)

-- the first n items changed
abbrev pub changed_first : {X : Type 0} → (X → X) → ℕ → List X → List X
changed_first f zero xs = xs
changed_first f (suc n) [] = []
changed_first f (suc n) (x ∷ xs) = f x ∷ changed_first f n xs

pub changed_next : {X : Type 0} (f : X → X) (xs : List X) (s : ℕ) (x : X) → slice_get xs s ≡ Some x
    → slice_set (changed_first f s xs) s (f x) ≡ changed_first f (suc s) xs
changed_next f [] s x e = absurd (cc)
changed_next f (y ∷ xs) zero x e = let same : x ≡ y = cc in ap (λ z. f z ∷ xs) same
changed_next f (y ∷ xs) (suc s) x e = ap (λ zs. f y ∷ zs) (changed_next f xs s x e)

-- the next one isn't yet
pub changed_here : {X : Type 0} (f : X → X) (xs : List X) (s : ℕ) → slice_get (changed_first f s xs) s ≡ slice_get xs s
changed_here f [] zero = refl
changed_here f [] (suc s) = refl
changed_here f (x ∷ xs) zero = refl
changed_here f (x ∷ xs) (suc s) = changed_here f xs s

pub changed_all : {X : Type 0} (f : X → X) (xs : List X) (n : ℕ) → length xs ≤ n → changed_first f n xs ≡ map f xs
changed_all f [] zero l = refl
changed_all f [] (suc n) l = refl
changed_all f (x ∷ xs) zero l = absurd (omega (arith, l))
changed_all f (x ∷ xs) (suc n) l = ap (λ ys. f x ∷ ys) (changed_all f xs n (omega (arith, l)))

pub length_changed : {X : Type 0} (f : X → X) (xs : List X) (n : ℕ) → length (changed_first f n xs) ≡ length xs
length_changed f xs zero = refl
length_changed f [] (suc n) = refl
length_changed f (x ∷ xs) (suc n) = ap suc (length_changed f xs n)

-- an item that is read where the first ones before it are changed
pub item_left : {X : Type 0} (f : X → X) (xs now : List X) (s : ℕ) (x : X) → now ≡ changed_first f s xs → s < length xs
    → x ≡ get_or now s x → slice_get xs s ≡ Some x
item_left f xs now s x e within is =
    let long : s < length now = omega (arith, within, ap length e, length_changed f xs s) in
    sym (changed_here f xs s) ∙ ap (λ zs. slice_get zs s) (sym e) ∙ slice_get_here now s x long is

pub length_kept : (x : ScheduleValue) (rests : List StreamRest)
    → length (rests_kept x rests) ≡ length (filter (λ rest. stays x rest.number) rests)
length_kept x rests = length-map (filter (λ rest. stays x rest.number) rests) (renumbered x)
