-- What is told of a session where no epoch comes any more.
use Rattle.std.specs.Prelude.{⊤}
use Rattle.std.specs.List.{AllZip}
use Rattle.std.proofs.Common.{◌≡◌, ℕ, ◌<◌, ◌^◌, ◌∙◌, List, [], length, ap, arith, map, subst, sym}
use Rattle.serve_core.specs.Schedule.{HasStream}
use Rattle.serve_hub.specs.Ends.{AreStreamsOf}
use Rattle.serve_hub.specs.Seats.{left_by}
use Rattle.serve_client.specs.Streams.{ServedValue}
use Rattle.serve_client.specs.Clients.{ClientLeft}
use Rattle.serve_work.specs.declared.session.interval.Interval.{Interval}
use Rattle.serve_work.specs.History.{EpochValue, epoch_of, journal_of}
use Rattle.serve_work.specs.Intervals.{Beginning, IsBetween}
use Rattle.serve_work.specs.Sessions.{IsServedBy}
use Rattle.serve_work.specs.SessionInside.{AreOver, AreTold, HasStand, HeldValue, outcomes_of}
use Rattle.serve_work.proofs.SessionCharges.{all_served, each_kept}
use Rattle.serve_work.proofs.SessionTurns.{all_over, over_length, same_length, zip_length}

module _ {R W : Type 0} (b : Beginning) (epochs : List EpochValue) (now : Interval R W) (at : IsBetween b epochs now) where
  pub as_many : length now.streams.items ≡ length at.helds
  as_many = omega (
    arith,
    ap length at.streams,
    same_length (λ (held : HeldValue). held.stream) at.helds,
  )

  pub few_told : (served : List ServedValue) → AreOver now.streams.items served → length served < 2 ^ 32
  few_told served over = omega (
    arith,
    over_length now.streams.items served over,
    as_many,
    zip_length (HasStand (journal_of epochs)) b.starts at.helds at.stand,
    at.begun.few,
  )

  -- the desk has each stream
  pub streams_told : (served : List ServedValue) → AreOver now.streams.items served
      → (n : ℕ) → n < length served → HasStream now.ended.book.desk n (λ _. ⊤)
  streams_told served over n less =
      let all = all_over now.waits (journal_of epochs) b.starts at.helds now.streams.items served at.over at.stand at.streams over in
      each_kept now.waits (journal_of epochs) now.ended.book.desk 0 b.starts all.0 all.3 at.begun.numbers
      (subst (AreStreamsOf now.ended.book.desk) (sym all.1) at.kept) n n (omega arith)
      (omega (
        arith,
        less,
        ap length all.2,
        same_length (λ (s : ServedValue). s.outcome) served,
        same_length (λ (l : ClientLeft). l.outcome) all.0,
      ))

  -- what is told of each stream, and what it was charged
  pub served_told : (served charged : List ServedValue) → AreOver now.streams.items served → outcomes_of charged ≡ outcomes_of served
      → AreTold now.ended.book.desk (length charged) charged
      → AllZip (IsServedBy now.waits epochs (epoch_of now.ended [])) b.starts charged
  served_told served charged over same told =
      let all = all_over now.waits (journal_of epochs) b.starts at.helds now.streams.items served at.over at.stand at.streams over in
      all_served now.waits epochs (epoch_of now.ended []) at.charges b.starts all.0 charged all.3 at.begun.numbers
      (subst (AreStreamsOf now.ended.book.desk) (sym all.1) at.kept) (at.seats ∙ ap (map left_by) (sym all.1)) (same ∙ all.2) told
