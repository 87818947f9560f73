-- What a session leaves where no moment is past the last.
use Rattle.std.proofs.Common.{ℕ, List, [], ◌∷◌, sym, subst, arith, inl, inr}
use Rattle.std.specs.List.{AllByRecursion}
use Rattle.serve_core.specs.Setup.{StreamSpec}
use Rattle.serve_report.specs.Entrants.{IsInTime, Leaves}
use Rattle.serve_report.specs.Moments.{AreMoments}
use Rattle.serve_client.specs.Clients.{AllowsStop, ClientStart}
use Rattle.serve_client.specs.Streams.{ServedValue}

-- a session whose clock gives no moment past the last leaves no stream that was stopped by it
module _ (Gives : ℕ → Type 0) (most : AreMoments Gives) where
  stopped_in_time : (left : List ServedValue) → AllByRecursion (λ s. AllowsStop Gives s.outcome.stop) left → AllByRecursion IsInTime left
  stopped_in_time [] stops = tt
  stopped_in_time (served ∷ left) stops = (
    λ is. let ended = subst (AllowsStop Gives) is stops.0 in let last = most ended.0 ended.2 in omega (arith, ended.1, last),
    stopped_in_time left stops.1,
  )

  pub left_in_time : (workers quantum journal : ℕ) (specs : List StreamSpec) (starts : List ClientStart) (left : List ServedValue)
      → Leaves Gives workers quantum journal specs starts left → AllByRecursion IsInTime left
  left_in_time workers quantum journal specs starts left (inl none) = subst (AllByRecursion IsInTime) (sym none.1) tt
  left_in_time workers quantum journal specs starts left (inr session) = stopped_in_time left session.1.stops
