-- Which streams are admitted to their workers, and the first fault of a setup.
use Rattle.std.specs.Prelude.{ℕ, ◌+◌, All, List, take, slice_get, IsSomeAnd}
use Rattle.cbs_account.specs.Admission as admission
use Rattle.serve_core.specs.declared.setup.SetupError.{SetupError}
use Rattle.serve_core.specs.declared.setup.SetupError.TheVariants.{BadLimits, BadBandwidth, Overload}
use Rattle.serve_core.specs.Setup.{HasBandwidth, HasLimits, Setup, StreamSpec, load}

-- each of these streams has a bandwidth, and all of them fit on so many workers
pub record AreAdmitted (workers : ℕ) (streams : List StreamSpec) : Type 0 where
  pub bandwidths : All HasBandwidth streams
  pub fit : admission.Fits (load workers streams)

-- why streams aren't admitted: the first that isn't, and its fault
abbrev pub IsRefusal : SetupError → ℕ → List StreamSpec → Type 0
IsRefusal BadLimits workers streams = ⊥
IsRefusal (BadBandwidth s) workers streams =
    AreAdmitted workers (take s streams)
    × IsSomeAnd (slice_get streams s) (λ spec. ¬ HasBandwidth spec)
IsRefusal (Overload s) workers streams =
    AreAdmitted workers (take s streams)
    × IsSomeAnd (slice_get streams s) HasBandwidth
    × ¬ admission.Fits (load workers (take (s + 1) streams))

-- the first fault of a setup: a number outside its limits, and only then a stream that isn't admitted
abbrev pub IsFault : SetupError → Setup → Type 0
IsFault BadLimits setup = ¬ HasLimits setup
IsFault e setup = HasLimits setup × IsRefusal e setup.workers setup.streams
