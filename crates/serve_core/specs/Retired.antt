-- What is left where the released streams are taken out.
use Rattle.std.specs.Prelude.{ℕ, ◌≡◌, ◌≤◌, ◌≢◌, Bool, false, not, List, filter, length, slice_get, take}
use Rattle.std.specs.Prelude.{IsFalse, IsTrue, Option, Some, None}
use Rattle.serve_core.specs.declared.held.Held.{Held}
use Rattle.serve_core.specs.Counts.{delivered, now}
use Rattle.serve_core.specs.Events.{Transcript}
use Rattle.serve_core.specs.Reached.{IsReached}
use Rattle.serve_core.specs.Released.{is_released, unreleased}
use Rattle.serve_core.specs.Schedule.{ScheduleValue}
use Rattle.serve_core.specs.Rules.{IsLegal}
use Rattle.serve_core.specs.Setup.{ImageRelation, IsSetup, Setup, SizeTest}
use Rattle.serve_core.specs.States.{State, StreamState, past, state_of}
use Rattle.serve_core.specs.Streams.{KeptStream}

-- no worker holds a lease
abbrev pub AreFree : List (Option Held) → Type 0
AreFree workers = (w : ℕ) (held : Held) → slice_get workers w ≢ Some (Some held)

-- the state without its released streams: the others are numbered anew, in their order, and nothing else
-- changes
abbrev pub retired : {F : Type 0} → State F → State F
retired m = record m { streams = unreleased m }

-- how many of the first s streams aren't released: where stream s isn't, that is its number then
abbrev pub place_of : {F : Type 0} → State F → ℕ → ℕ
place_of m s = length (filter (λ x. not (is_released m.clock x)) (take s m.streams))

module _ {F G : Type 0} (measures : SizeTest F) (is_image : ImageRelation F G) where
  -- the transcript q, of a setup of the streams that aren't released after p, leads to where p does, without
  -- the others. To each stream of q the very same happened as in p, and it gave the same images
  pub record IsRetired (setup : Setup) (p : Transcript F G) (alone : Setup) (q : Transcript F G)
      : Type 0 where
    pub is_setup : IsSetup alone
    pub legal : IsLegal measures is_image alone q
    pub state : state_of alone q ≡ retired (state_of setup p)
    pub pasts : (s : ℕ) (x : StreamState F) → slice_get (state_of setup p).streams s ≡ Some x
        → IsFalse (is_released (now p) x)
        → let t = place_of (state_of setup p) s in
        (past alone t q ≡ past setup s p) × (delivered t q ≡ delivered s p)

  -- where no worker holds a lease after a legal transcript, and a stream isn't released, there is such a one
  abbrev pub RetiredLaw : Type 0
  RetiredLaw =
      (setup : Setup) (p : Transcript F G) → IsSetup setup → IsLegal measures is_image setup p
      → AreFree (state_of setup p).workers → 1 ≤ length (unreleased (state_of setup p))
      → (alone : Setup) × (q : Transcript F G) × IsRetired setup p alone q

  -- what is reached, with no lease out, is reached without its released streams too, if there are others
  abbrev pub RetireLaw : Type 0
  RetireLaw =
      (m : State F) → IsReached measures is_image m → AreFree m.workers → 1 ≤ length (unreleased m)
      → IsReached measures is_image (retired m)

-- the streams of a schedule that aren't released
abbrev pub staying : ScheduleValue → List KeptStream
staying x = filter (λ stream. not (is_released x.clock stream.state)) x.streams

-- the schedule without the others: its streams are numbered anew, in their order, and nothing else changes
abbrev pub retired_schedule : ScheduleValue → ScheduleValue
retired_schedule x = record x { streams = staying x }

-- whether a stream that may be there stays
abbrev pub stays_at : ℕ → Option KeptStream → Bool
stays_at moment None = false
stays_at moment (Some stream) = not (is_released moment stream.state)

-- whether stream s is there and stays
abbrev pub stays : ScheduleValue → ℕ → Bool
stays x s = stays_at x.clock (slice_get x.streams s)

-- how many of the first s streams stay: where stream s does, that is its number then
abbrev pub new_number : ScheduleValue → ℕ → ℕ
new_number x s = length (filter (λ stream. not (is_released x.clock stream.state)) (take s x.streams))

-- a stream that stays is found under its new number
abbrev pub NumberLaw : Type 0
NumberLaw =
    (x : ScheduleValue) (s : ℕ) → IsTrue (stays x s)
    → slice_get (staying x) (new_number x s) ≡ slice_get x.streams s
