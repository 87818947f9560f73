-- What a machine stands for, and what it keeps.
use Rattle.std.specs.Prelude.{ℕ, ◌≡◌, List, slice_get, Some, is_some}
use Rattle.filters.specs.ChainImage.{FrameValue}
use Rattle.serve_core.specs.Released.{StillFits}
use Rattle.serve_core.specs.Schedule.{ScheduleValue, state_by}
use Rattle.serve_core.specs.Sound.{Sound}
use Rattle.serve_core.specs.States.{State}
use Rattle.serve_core.specs.Streams.{KeptStream}

-- the state of a schedule whose jobs are all here
abbrev pub machine : ScheduleValue → State FrameValue
machine x = state_by (λ stream. stream.state.frames) x

-- each job that is out is here
abbrev pub AreWhole : List KeptStream → Type 0
AreWhole streams = (s : ℕ) (stream : KeptStream) → slice_get streams s ≡ Some stream
    → is_some stream.leased ≡ is_some stream.state.holder

pub record IsMachine (x : ScheduleValue) : Type 0 where
  pub sound : Sound (machine x)
  pub fits : StillFits (machine x)
  pub whole : AreWhole x.streams
