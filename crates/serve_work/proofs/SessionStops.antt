-- Which stops a clock allows, from epoch to epoch.
use Rattle.std.specs.Prelude.{drop}
use Rattle.std.specs.List.{AllByRecursion}
use Rattle.std.proofs.Common.{◌≡◌, ℕ, List, [], ◌∷◌, Option, IfSome, Some, ap, arith, get_or, length, map, sym, subst}
use Rattle.y4m_stream.specs.Reader.{ReaderState}
use Rattle.serve_hub.specs.Seats.{StreamSeatValue}
use Rattle.serve_client.specs.Clients.{AllowsStop, ClientOutcome}
use Rattle.serve_client.specs.ClientInside.{IsNoNewEnd}
use Rattle.serve_client.specs.Streams.{ServedValue, StreamValue, stream_stop}
use Rattle.serve_client.proofs.Allowing.{kept_allowed}
use Rattle.serve_work.specs.SessionInside.{AllGoOn, AreAllowed, AreOver, BringNoEnd, HeldValue, held_at, held_with}
use Rattle.serve_work.specs.SessionInside.{outcomes_of}
use Rattle.serve_work.specs.Sessions.{unread}

abbrev stream_in : HeldValue → StreamValue
stream_in held = held.stream

-- the stop of a stream that is taken apart
pub stop_inside : (Gives : ℕ → Type 0) (seat : StreamSeatValue) (stream waiting : StreamValue) (held : HeldValue)
    → stream ≡ waiting → held_at seat stream ≡ held
    → IfSome (stream_stop held.stream) (AllowsStop Gives) → IfSome (stream_stop waiting) (AllowsStop Gives)
stop_inside Gives seat stream waiting held is view allowed =
    subst (λ (s : StreamValue). IfSome (stream_stop s) (AllowsStop Gives)) is
    (subst (λ (h : HeldValue). IfSome (stream_stop h.stream) (AllowsStop Gives)) (sym view) allowed)

module _ (Gives : ℕ → Type 0) where
  none_stopped : {W : Type 0} (contents : W → Option (List ℕ)) (failures : W → ℕ) (inputs : List (ReaderState × W))
      → AreAllowed Gives (map (unread contents failures) inputs)
  none_stopped contents failures [] = tt
  none_stopped contents failures (input ∷ inputs) = (tt, none_stopped contents failures inputs)

  pub begin_allowed : {W : Type 0} (contents : W → Option (List ℕ)) (failures : W → ℕ) (these : List StreamValue)
      (inputs : List (ReaderState × W)) → these ≡ map (unread contents failures) inputs → AreAllowed Gives these
  begin_allowed contents failures these inputs e = subst (AreAllowed Gives) (sym e) (none_stopped contents failures inputs)

  went_on : (helds after : List HeldValue) → AllGoOn Gives helds after → AreAllowed Gives (map stream_in helds)
      → AreAllowed Gives (map stream_in after)
  went_on [] [] p a = tt
  went_on [] (held ∷ after) p a = absurd p
  went_on (held ∷ helds) [] p a = absurd p
  went_on (held ∷ helds) (next ∷ after) p a = (p.0.2 a.0, went_on helds after p.1 a.1)

  with_seats : (seats : List StreamSeatValue) (these : List StreamValue) → AreAllowed Gives these
      → AreAllowed Gives (map stream_in (held_with seats these))
  with_seats [] these a = tt
  with_seats (seat ∷ seats) [] a = tt
  with_seats (seat ∷ seats) (stream ∷ these) a = (a.0, with_seats seats these a.1)

  pub go_on_allowed : (seats : List StreamSeatValue) (these those : List StreamValue) (helds : List HeldValue)
      → AllGoOn Gives (held_with seats these) helds → those ≡ map stream_in helds → AreAllowed Gives these → AreAllowed Gives those
  go_on_allowed seats these those helds on e a =
      subst (AreAllowed Gives) (sym e) (went_on (held_with seats these) helds on (with_seats seats these a))

  -- what is told of them, where no epoch comes any more
  pub stops_told : (streams : List StreamValue) (served : List ServedValue) → AreAllowed Gives streams → BringNoEnd streams served
      → AllByRecursion (λ s. AllowsStop Gives s.outcome.stop) served
  stops_told [] [] a none = tt
  stops_told [] (s ∷ served) a none = absurd none
  stops_told (stream ∷ streams) [] a none = absurd none
  stops_told (stream ∷ streams) (s ∷ served) a none =
      (kept_allowed Gives (stream_stop stream) (Some s.outcome.stop) none.0 a.0, stops_told streams served a.1 none.1)

-- the same, where the outcomes are the same
pub stops_same : (streams : List StreamValue) (old new : List ServedValue) → outcomes_of new ≡ outcomes_of old → BringNoEnd streams old
    → BringNoEnd streams new
stops_same [] [] [] e q = tt
stops_same [] [] (s ∷ new) e q = absurd (omega (arith, ap length e))
stops_same [] (t ∷ old) new e q = absurd q
stops_same (stream ∷ streams) [] new e q = absurd q
stops_same (stream ∷ streams) (t ∷ old) [] e q = absurd (omega (arith, ap length e))
stops_same (stream ∷ streams) (t ∷ old) (s ∷ new) e q =
    let same : s.outcome ≡ t.outcome = ap (λ os. get_or os 0 s.outcome) e in (
      subst (λ (o : ClientOutcome). IsNoNewEnd (stream_stop stream) (Some o.stop)) (sym same) q.0,
      stops_same streams old new (ap (λ os. drop 1 os) e) q.1,
    )

pub over_stops : (streams : List StreamValue) (served : List ServedValue) → AreOver streams served → BringNoEnd streams served
over_stops [] [] q = tt
over_stops [] (s ∷ served) q = absurd q
over_stops (stream ∷ streams) [] q = absurd q
over_stops (stream ∷ streams) (s ∷ served) q = (q.0.stop, over_stops streams served q.1)
