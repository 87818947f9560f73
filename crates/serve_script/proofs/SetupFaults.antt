-- A setup that is one has no fault.
use Rattle.std.proofs.Common.{inl, inr, sym, subst}
use Rattle.serve_core.proofs.Rules.Admissions.{not_refused}
use Rattle.serve_core.specs.Admitted.{IsFault}
use Rattle.serve_core.specs.Setup.{IsSetup, Setup}
use Rattle.serve_core.specs.declared.setup.SetupError.{SetupError}
use Rattle.serve_core.specs.declared.setup.SetupError.TheVariants.{BadLimits, BadBandwidth, Overload}
use Rattle.serve_script.specs.ScriptState.{Given, Preparation, TakesMemory}
use Rattle.serve_script.specs.SessionSetup.{StartGives, prepared_setup}

no_fault : (error : SetupError) (setup : Setup) → IsSetup setup → IsFault error setup → ⊥
no_fault BadLimits setup is fault = fault is.0.limits
no_fault (BadBandwidth s) setup is fault = not_refused (BadBandwidth s) setup.workers setup.streams fault.1 is.0.bandwidths is.1
no_fault (Overload s) setup is fault = not_refused (Overload s) setup.workers setup.streams fault.1 is.0.bandwidths is.1

-- a start that can be made is given nothing but the session, for which there may be no memory
pub start_lost : (p : Preparation) → IsSetup (prepared_setup p) → (given : Given) → StartGives p given → TakesMemory given
start_lost p is given (inl gives) = subst TakesMemory (sym gives.1) tt
start_lost p is given (inr fault) = absurd (no_fault fault.0 (prepared_setup p) is fault.1)
