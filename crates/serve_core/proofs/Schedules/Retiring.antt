-- A schedule whose released streams are taken out.
use Rattle.std.proofs.Common.{ℕ, zero, suc, ◌+◌, ◌*◌, ◌≡◌, ◌≤◌, inl, inr, Bool, true, false, not, refl, sym, ◌∙◌}
use Rattle.std.proofs.Common.{if◌then◌else◌, ap, subst, arith, List, [], ◌∷◌, length, map, filter, replicate}
use Rattle.std.proofs.Common.{sum_by, Option, Some, None, slice_get, slice_set}
use Rattle.std.proofs.lemmas.List.{length-map}
use Rattle.std.proofs.lemmas.List.Sums.{sum_by-cons}
use Rattle.serve_core.specs.Bare.{measures_any, is_any_image}
use Rattle.serve_core.specs.Desk.{bare_frames, desk_state}
use Rattle.serve_core.specs.DeskInside.{IsDesk}
use Rattle.serve_core.specs.Reached.{IsReached}
use Rattle.serve_core.specs.Released.{StillFits, held_share, is_released}
use Rattle.serve_core.specs.Retired.{AreFree, NumberLaw, retired, retired_schedule, staying, stays_at}
use Rattle.serve_core.specs.Schedule.{ScheduleValue, ready_deadlines, state_by, stream_by}
use Rattle.serve_core.specs.Sound.{Sound}
use Rattle.serve_core.specs.States.{State, StreamState, ready_deadline}
use Rattle.serve_core.specs.Streams.{KeptStream}
use Rattle.serve_core.proofs.Events.Steps.{state_is}
use Rattle.serve_core.proofs.Items.Picks.{passed_first, picked_at, picked_filter, picked_from, picked_get, place}
use Rattle.serve_core.proofs.Items.Picks.{true_or}
use Rattle.serve_core.proofs.Transcripts.Alone.{retire_is}

-- an item that passed a test was there, and passes it
pub filter_from : {X : Type 0} (test : X → Bool) (xs : List X) (t : ℕ) (x : X)
    → slice_get (filter test xs) t ≡ Some x
    → (s : ℕ) × (slice_get xs s ≡ Some x) × (test x ≡ true)
filter_from test xs t x e =
    let found = subst (λ ys. slice_get ys t ≡ Some x) (sym (picked_filter test xs)) e in
    let h = picked_from (map test xs) xs t x found in
    (h.0, h.1, sym (picked_at test xs h.0 x h.1) ∙ h.2)

filter_in : {X : Type 0} (test : X → Bool) (x : X) (xs : List X) → test x ≡ true
    → filter test (x ∷ xs) ≡ x ∷ filter test xs
filter_in test x xs e = rw e refl

filter_out : {X : Type 0} (test : X → Bool) (x : X) (xs : List X) → test x ≡ false
    → filter test (x ∷ xs) ≡ filter test xs
filter_out test x xs e = rw e refl

-- what passes among mapped items
pub filter_mapped : {X Y : Type 0} (f : X → Y) (test : Y → Bool) (xs : List X)
    → filter test (map f xs) ≡ map f (filter (λ x. test (f x)) xs)
filter_mapped f test [] = refl
filter_mapped f test (x ∷ xs) =
    let rest = filter_mapped f test xs in
    elim (true_or (test (f x))) [
      | inl e ↦ filter_in test (f x) (map f xs) e ∙ ap (λ ys. f x ∷ ys) rest
          ∙ sym (ap (map f) (filter_in (λ y. test (f y)) x xs e))
      | inr e ↦ filter_out test (f x) (map f xs) e ∙ rest
          ∙ sym (ap (map f) (filter_out (λ y. test (f y)) x xs e))
    ]

-- those that are released hold nothing
no_share : (b : Bool) (n : ℕ) → not b ≡ false → (if b then 0 else n) ≡ 0
no_share true n e = refl
no_share false n e = absurd (cc)

module _ {F : Type 0} where
  pub retired_state : (frames : KeptStream → List F) (x : ScheduleValue)
      → state_by frames (retired_schedule x) ≡ retired (state_by frames x)
  retired_state frames x =
      state_is x.clock x.quantum _ _ _ _
      (sym (filter_mapped (stream_by frames) (λ y. not (is_released x.clock y)) x.streams)) refl

  pub sound_retired : (m : State F) → Sound m → AreFree m.workers → Sound (retired m)
  sound_retired m h free =
      let test = λ (x : StreamState F). not (is_released m.clock x) in
      record {
        clock = h.clock;
        quantum = h.quantum;
        some_workers = h.some_workers;
        workers = h.workers;
        streams = λ s x e. let old = filter_from test m.streams s x e in h.streams old.0 x old.1;
        leases = λ w l e. absurd (free w l e);
        holders = λ s x w e k.
            let old = filter_from test m.streams s x e in
            let lease = h.holders old.0 x w old.1 k in
            absurd (free w lease.0 lease.1);
      }

  shares_kept : (t : ℕ) (xs : List (StreamState F))
      → sum_by (held_share t) (filter (λ x. not (is_released t x)) xs) ≡ sum_by (held_share t) xs
  shares_kept t [] = refl
  shares_kept t (x ∷ xs) =
      let test = λ (x : StreamState F). not (is_released t x) in
      let rest = shares_kept t xs in
      let whole = sum_by-cons (held_share t) x xs in
      elim (true_or (test x)) [
        | inl e ↦ ap (sum_by (held_share t)) (filter_in test x xs e)
            ∙ sum_by-cons (held_share t) x (filter test xs) ∙ ap (λ (n : ℕ). held_share t x + n) rest ∙ sym whole
        | inr e ↦
            let none : held_share t x ≡ 0 = no_share (is_released t x) _ e in
            let fewer = ap (sum_by (held_share t)) (filter_out test x xs e) in
            omega (arith, fewer, rest, whole, none)
      ]

  fits_retired : (m : State F) → StillFits m → StillFits (retired m)
  fits_retired m fits =
      let whole : sum_by (held_share m.clock) m.streams ≤ 1000000 * length m.workers = fits in
      let same = shares_kept m.clock m.streams in
      omega (arith, whole, same)

pub desk_retired : (x : ScheduleValue) → IsDesk x → AreFree x.workers → IsDesk (retired_schedule x)
desk_retired x h free =
    let same = sym (retired_state bare_frames x) in
    record {
      sound = subst Sound same (sound_retired (desk_state x) h.sound free);
      fits = subst StillFits same (fits_retired (desk_state x) h.fits);
      away = λ s stream e.
          let old = filter_from (λ (stream : KeptStream). not (is_released x.clock stream.state)) x.streams s stream e in
          h.away old.0 stream old.1;
      unused = h.unused;
    }

pub reached_retired : (x : ScheduleValue) → AreFree x.workers → 1 ≤ length (staying x)
    → IsReached measures_any is_any_image (desk_state x)
    → IsReached measures_any is_any_image (desk_state (retired_schedule x))
reached_retired x free some r =
    let same = retired_state bare_frames x in
    let count = length-map (staying x) (stream_by bare_frames) in
    let all = ap (λ m. length m.streams) same in
    subst (IsReached measures_any is_any_image) (sym same)
    (retire_is measures_any is_any_image (desk_state x) r free (omega (arith, some, count, all)))

stays_then : (moment : ℕ) (o : Option KeptStream) → stays_at moment o ≡ true
    → (stream : KeptStream) × (o ≡ Some stream) × (not (is_released moment stream.state) ≡ true)
stays_then moment None h = absurd (cc)
stays_then moment (Some stream) h = (stream, refl, h)

pub number_is : NumberLaw
number_is x s h =
    let test = λ (stream : KeptStream). not (is_released x.clock stream.state) in
    let found = stays_then x.clock (slice_get x.streams s) h in
    let stream = found.0 in
    let picks = picked_get (map test x.streams) x.streams s stream found.1
    (picked_at test x.streams s stream found.1 ∙ found.2) in
    let number = passed_first test x.streams s stream found.1 in
    ap (λ (n : ℕ). slice_get (staying x) n) (sym number)
    ∙ ap (λ (ys : List KeptStream). slice_get ys (place (map test x.streams) s)) (sym (picked_filter test x.streams))
    ∙ picks ∙ sym found.1

-- the pool while the first n streams are shown again
abbrev pub shown_first : ℕ → List KeptStream → List (Option ℕ)
shown_first zero streams = map (λ stream. None) streams
shown_first (suc n) [] = []
shown_first (suc n) (stream ∷ streams) = ready_deadline stream.state ∷ shown_first n streams

pub shown_none : (streams : List KeptStream) → replicate (length streams) None ≡ shown_first 0 streams
shown_none [] = refl
shown_none (stream ∷ streams) =
    ap (λ (ds : List (Option ℕ)). let d : Option ℕ = None in d ∷ ds) (shown_none streams)

pub shown_next : (streams : List KeptStream) (s : ℕ) (stream : KeptStream) → slice_get streams s ≡ Some stream
    → slice_set (shown_first s streams) s (ready_deadline stream.state) ≡ shown_first (suc s) streams
shown_next [] s stream e = absurd (cc)
shown_next (y ∷ streams) zero stream e =
    let same : stream ≡ y = cc in
    ap (λ (z : KeptStream). ready_deadline z.state ∷ shown_first 0 streams) same
shown_next (y ∷ streams) (suc s) stream e =
    ap (λ (ds : List (Option ℕ)). ready_deadline y.state ∷ ds) (shown_next streams s stream e)

pub shown_all : (streams : List KeptStream) (n : ℕ) → length streams ≤ n
    → shown_first n streams ≡ ready_deadlines streams
shown_all [] zero l = refl
shown_all [] (suc n) l = refl
shown_all (y ∷ streams) zero l = absurd (omega (arith, l))
shown_all (y ∷ streams) (suc n) l =
    ap (λ (ds : List (Option ℕ)). ready_deadline y.state ∷ ds) (shown_all streams n (omega (arith, l)))

pub length_shown : (streams : List KeptStream) (n : ℕ) → length (shown_first n streams) ≡ length streams
length_shown streams zero = length-map streams (λ stream. let d : Option ℕ = None in d)
length_shown [] (suc n) = refl
length_shown (y ∷ streams) (suc n) = ap suc (length_shown streams n)
