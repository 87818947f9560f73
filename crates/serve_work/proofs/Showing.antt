-- How the streams of a session are shown.
use Rattle.std.specs.Prelude.{IsSomeAnd}
use Rattle.std.specs.Option.{option_map}
use Rattle.std.proofs.Common.{ℕ, ◌≡◌, ◌∙◌, ◌+◌, ◌++◌, List, [], ◌∷◌, Option, Some, None, IsFalse, inl, inr, true, ap, arith, refl, sym}
use Rattle.serve_core.specs.declared.counts.Counts.{Counts}
use Rattle.serve_core.specs.Schedule.{HasStream, ScheduleValue, account_of, counts_of}
use Rattle.serve_core.specs.Streams.{KeptStream}
use Rattle.serve_hub.specs.declared.entry.Act.{Act}
use Rattle.serve_hub.specs.Ends.{IsStreamOf}
use Rattle.serve_hub.specs.Seats.{StreamSeatValue}
use Rattle.serve_client.specs.Clients.{ClientStart, collections_in, offers_in}
use Rattle.serve_client.specs.Rests.{Begun, IsRestOf, RestValue, Unbegun}
use Rattle.serve_client.specs.Streams.{Over, StandsAt, StreamValue, Waiting, is_waiting}
use Rattle.serve_client.proofs.Tallying.{collections_both, collections_counted}
use Rattle.serve_work.specs.declared.request.Standing.{Standing}
use Rattle.serve_work.specs.History.{EpochValue, IsHistory, IsLeftBy, Terms}
use Rattle.serve_work.specs.Live as requests
use Rattle.serve_work.specs.Live.{IsStanding, IsStandingOf, start_with}
use Rattle.serve_work.specs.LiveInside.{Stood}
use Rattle.serve_work.proofs.Answering.{at_end}
use Rattle.serve_work.proofs.SessionCharges.{stream_at}

abbrev pub standing_with : Counts → (budget deadline : ℕ) → Standing
standing_with counts budget deadline = record {
  accepted = counts.accepted;
  finished = counts.finished;
  collected = counts.collected;
  charged = counts.charged;
  budget = budget;
  deadline = deadline;
}

-- a stream's counts and its account are shown
pub shown_as : (o : Option KeptStream) (counts : Counts) (budget deadline : ℕ)
    → Some counts ≡ option_map (λ stream. counts_of stream.state) o
    → Some (budget, deadline) ≡ option_map (λ stream. account_of stream.state) o
    → IsSomeAnd o (IsStandingOf (standing_with counts budget deadline))
shown_as None counts budget deadline e f = absurd (cc)
shown_as (Some stream) counts budget deadline e f =
    let same : counts ≡ counts_of stream.state = cc in
    let account : (budget, deadline) ≡ account_of stream.state = cc in
    record {
      accepted = ap (λ (c : Counts). c.accepted) same;
      finished = ap (λ (c : Counts). c.finished) same;
      collected = ap (λ (c : Counts). c.collected) same;
      charged = ap (λ (c : Counts). c.charged) same;
      budget = ap (λ (a : ℕ × ℕ). a.0) account;
      deadline = ap (λ (a : ℕ × ℕ). a.1) account;
    }

-- what a stream's calls say of its seat, where something is left to do
record Counted (start : ClientStart) (past : List Act) (seat : StreamSeatValue) : Type 0 where
  offers : offers_in (past ++ seat.calls.list) ≡ seat.accepted
  before : seat.before ≡ start.seat.before + collections_in past

counted : (start : ClientStart) (past : List Act) (seat : StreamSeatValue) (rest : RestValue) → IsRestOf start past seat rest
    → Counted start past seat
counted start past seat (Unbegun reader contents failures) a = record { offers = a.offers; before = a.before }
counted start past seat (Begun begun) a = record { offers = a.tally.offers; before = a.tally.before }

rest_left : (stream : StreamValue) (start : ClientStart) (past : List Act) (seat : StreamSeatValue) → is_waiting stream ≡ true
    → StandsAt stream start past seat → (rest : RestValue) × IsRestOf start past seat rest
rest_left (Waiting rest) start past seat e stands = (rest, stands)
rest_left (Over outcome) start past seat e stands = absurd (cc)

-- a stream that isn't over is shown as it stands
pub can_show : (terms : Terms) (times : ℕ → Type 0) (es : List EpochValue) (desk : ScheduleValue) (w : requests.Waiting)
    (stream : StreamValue) (seat : StreamSeatValue) (standing : Standing) → IsHistory terms times es
    → Stood terms times es desk w stream seat
    → is_waiting stream ≡ true → HasStream desk seat.number (IsStreamOf seat)
    → HasStream desk seat.number (IsStandingOf standing) → IsStanding terms times es w standing
can_show terms times es desk w stream seat standing history s waits of has =
    let start = start_with w.request s.first in
    let rest = rest_left stream start s.past seat waits s.stands in
    let count = counted start s.past seat rest.0 rest.1 in
    let at = stream_at desk seat.number (IsStreamOf seat) (IsStandingOf standing) of has in
    record {
      history = history;
      first = s.first;
      is_new = s.is_new;
      past = s.past;
      seat = seat;
      rest = rest.0;
      left = rest.1;
      number = s.number;
      before = s.before;
      numbers = s.had;
      calls = s.calls;
      accepted = at.second.accepted ∙ at.first.accepted ∙ sym count.offers;
      collected = omega (
        arith,
        at.second.collected,
        at.first.collected,
        count.before,
        s.is_new.before,
        collections_both s.past seat.calls.list,
        collections_counted seat.calls.list,
      );
      stream = at_end terms w.request.spec es s.number s.before desk seat.number (IsStandingOf standing) history.epochs_are s.behind has;
      has_left = s.left;
    }

-- a schedule that is left is that of the latest epoch, by its clock
pub latest_left : (es : List EpochValue) (desk : ScheduleValue) → IsLeftBy es desk
    → (epoch : EpochValue) × (before : List EpochValue) × (es ≡ epoch ∷ before) × IsFalse epoch.is_given_up
    × (desk.clock ≡ epoch.gone.clock)
latest_left [] desk left = absurd left
latest_left (epoch ∷ es) desk (on, inl e) = (epoch, es, refl, on, ap (λ (x : ScheduleValue). x.clock) e)
latest_left (epoch ∷ es) desk (on, inr e) = (epoch, es, refl, on, ap (λ (x : ScheduleValue). x.clock) e)
