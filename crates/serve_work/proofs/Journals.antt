-- The journals of a session's epochs, one behind the other.
use Rattle.std.specs.Prelude.{IsFalse, IsTrue, if◌then◌else◌, sum_by}
use Rattle.std.proofs.Common.{ℕ, ◌≡◌, ◌≢◌, ◌≤◌, ◌<◌, ◌+◌, Bool, true, false, List, [], ◌∷◌, inl, inr, length, map, refl, arith}
use Rattle.std.proofs.lemmas.List.Sums.{sum_by-cons}
use Rattle.serve_core.specs.Bare.{Blank}
use Rattle.serve_core.specs.Desk.{bare_frames, desk_state}
use Rattle.serve_core.specs.Schedule.{ScheduleValue, stream_by}
use Rattle.serve_core.specs.States.{StreamState}
use Rattle.serve_core.specs.Streams.{KeptStream}
use Rattle.serve_hub.specs.Books.{BookValue, IsBook, entries_left, one_open}
use Rattle.serve_hub.specs.Ends.{AreFree}
use Rattle.serve_hub.proofs.Opened.{only_closes}
use Rattle.serve_work.specs.Entries.{open_streams}
use Rattle.serve_work.specs.History.{EpochValue}
use Rattle.serve_work.specs.Sessions.{AreInTurn, IsFull, OpensInTurn}

-- as many streams are open in a desk's state as in the desk
as_open : (streams : List KeptStream)
    → sum_by (λ (x : StreamState Blank). if x.is_closed then 0 else 1) (map (stream_by bare_frames) streams)
    ≡ sum_by one_open streams
as_open [] = refl
as_open (stream ∷ streams) =
    let one : StreamState Blank → ℕ = λ x. if x.is_closed then 0 else 1 in
    omega (
      arith,
      sum_by-cons one (stream_by bare_frames stream) (map (stream_by bare_frames) streams),
      sum_by-cons one_open stream streams,
      as_open streams,
    )

-- a book that is left with no lease out
module _ (limit : ℕ) (book : BookValue) (is : IsBook book) (same : book.limit ≡ limit) (free : AreFree book.desk.workers) where
  -- its journal has room for a close of each open stream
  pub fits_limit : length book.past + open_streams (desk_state book.desk) ≤ limit
  fits_limit =
      let closes = only_closes book.desk free in
      let are_open : open_streams (desk_state book.desk) ≡ sum_by one_open book.desk.streams = as_open book.desk.streams in
      omega (arith, is.fits, same, closes, are_open)

  -- and is full, where it has none for two entries more
  pub is_full : entries_left book < 2 → limit < length book.past + open_streams (desk_state book.desk) + 2
  is_full few =
      let closes = only_closes book.desk free in
      let are_open : open_streams (desk_state book.desk) ≡ sum_by one_open book.desk.streams = as_open book.desk.streams in
      omega (arith, few, same, closes, are_open)

-- an epoch that opened in turn is one more, whether a stream waits behind it or not
pub one_in_turn : (limit : ℕ) (first : ScheduleValue) (waits is_cut is_first : Bool) (epoch : EpochValue) (before : List EpochValue)
    → OpensInTurn limit first epoch.opening before → (IsFalse is_first → before ≢ [])
    → (IsTrue is_cut → epoch.journal ≡ []) → (IsTrue is_cut → IsFalse is_first)
    → (IsFalse is_cut → IsTrue waits → IsFull limit epoch) → AreInTurn limit first waits (epoch ∷ before)
one_in_turn limit first false is_cut is_first epoch before opens later empty cut full = opens
one_in_turn limit first true false is_first epoch before opens later empty cut full = (opens, inl (full refl refl))
one_in_turn limit first true true is_first epoch before opens later empty cut full = (opens, inr (empty refl, later (cut refl)))
