-- The moments of a run.
use Rattle.std.specs.Prelude.{ℕ, ◌≤◌, ◌/◌, min}
use Rattle.cbs_account.specs.declared.limits.TheConstants.{LAST_MOMENT}

-- a moment that the clock of a run may tell
abbrev pub IsMoment : ℕ → Type 0
IsMoment moment = moment ≤ LAST_MOMENT

-- a clock that may give these moments gives none past the last
abbrev pub AreMoments : (Gives : ℕ → Type 0) → Type 0
AreMoments Gives = (moment : ℕ) → Gives moment → IsMoment moment

-- how many moments of so many microseconds there are in a time of so many nanoseconds, up to the last
abbrev pub moments_in : (nanoseconds microseconds : ℕ) → ℕ
moments_in nanoseconds microseconds = min (nanoseconds / 1000 / microseconds) LAST_MOMENT
