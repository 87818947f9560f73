-- How a command before `start` ends, by what the program keeps.
use Rattle.std.proofs.Common.{◌≡◌, ℕ, inl, inr, List, Option, None, Some, Result, Ok, Err, refl, sym, subst, MatchOption}
use Rattle.serve_core.specs.Setup.{IsSetup, StreamSpec}
use Rattle.serve_script.specs.ScriptFault as faults
use Rattle.serve_script.specs.ScriptFault.{Fault, fault_told}
use Rattle.serve_script.specs.LineEnds.{Ends}
use Rattle.serve_script.specs.ScriptReport.{SetupLineGives}
use Rattle.serve_script.specs.ScriptState.{Given, Prints, Faults, MayFault, Preparation, ScriptState, TakesMemory}
use Rattle.serve_script.specs.SessionCommand.{SetupForm, StreamForm, setup_of}
use Rattle.serve_script.specs.SessionInside.{MayLack}
use Rattle.serve_script.specs.SessionSetup.{BandGives, SetupGives, StartGives, StreamGives, prepared_setup, settled, started, stream_added}
use Rattle.serve_script.specs.StreamLine.{AsksFor}
use Rattle.serve_script.specs.declared.fault.ScriptFault.{ScriptFault}
use Rattle.serve_script.specs.declared.run.Script.{Script}
use Rattle.serve_script.proofs.SetupFaults.{start_lost}
use Rattle.serve_script.proofs.StreamGiven.{line_faults, line_lost}

-- what a line gives before `start`, where it writes a command or not
abbrev FormGives : Preparation → Option SetupForm → Given → Type 0
FormGives p form given = MatchOption form (given ≡ Faults faults.BadLine) (λ is. SetupGives p is given)

-- a line that writes no command
pub setup_bad : (p : Preparation) (line : List ℕ) → setup_of line ≡ None → MayFault (SetupLineGives p line) faults.BadLine
setup_bad p line none = subst (λ (found : Option SetupForm). FormGives p found (Faults faults.BadLine)) (sym none) refl

-- a line ends as its command does
pub setup_ends : (p : Preparation) (line : List ℕ) (form : SetupForm) (r : Result Script ScriptFault)
    (before after : List ℕ) → setup_of line ≡ Some form
    → Ends (SetupGives p form) r before after → Ends (SetupLineGives p line) r before after
setup_ends p line form r before after is ends = subst (λ (found : Option SetupForm). Ends (FormGives p found) r before after) (sym is) ends

-- a setting has no fault
only_memory : (next : Preparation) (fault : Fault) → MayFault (λ given. given ≡ settled next) fault → fault ≡ faults.NoMemory
only_memory next faults.NoMemory may = refl
only_memory next fault may = absurd (cc may)

band_memory : (p next : Preparation) (rows : ℕ) → BandGives p rows (settled next) → (given : Given)
    → BandGives p rows given → TakesMemory given
band_memory p next rows made given (inl gives) = subst TakesMemory (sym gives.1) tt
band_memory p next rows (inl made) given (inr none) = absurd (none.0 made.0)
band_memory p next rows (inr made) given (inr none) = let is = made.1 in absurd cc

-- bands of so many rows are a setting
pub band_ends : (p next : Preparation) (rows : ℕ) (r : Result Script ScriptFault) (before after : List ℕ) → BandGives p rows (settled next)
    → Ends (λ given. given ≡ settled next) r before after → Ends (BandGives p rows) r before after
band_ends p next rows (Ok kept) before after gives a =
    record {
      answer = a.answer;
      next = a.next;
      gives = subst (BandGives p rows) (sym a.gives) gives;
      stands = a.stands;
      printed = a.printed;
    }
band_ends p next rows (Err fault) before after gives (may, same) =
    (subst (MayFault (BandGives p rows)) (sym (only_memory next (fault_told fault) may)) (band_memory p next rows gives), same)

stream_takes : (p : Preparation) (form : StreamForm) (spec : StreamSpec) (given : Given) → given ≡ stream_added p form.name spec
    → TakesMemory given
stream_takes p form spec given is = subst TakesMemory (sym is) tt

module _ (p : Preparation) (form : StreamForm) where
  -- a fault of what a line asks for is the line's
  pub stream_faults : (fault : Fault) → MayLack (AsksFor p.names p.settings form) fault → MayFault (StreamGives p form) fault
  stream_faults fault may = line_faults p.names p.settings form _ (stream_takes p form) fault may

  -- there is no memory for a stream that it asks for
  pub stream_lost : (spec : StreamSpec) → AsksFor p.names p.settings form (Ok spec) → MayFault (StreamGives p form) faults.NoMemory
  stream_lost spec asks = line_lost p.names p.settings form _ (stream_takes p form) spec asks

  -- or for its answer
  pub stream_unkept : (answer : List ℕ) (end : ScriptState) → StreamGives p form (Prints answer end)
      → MayFault (StreamGives p form) faults.NoMemory
  stream_unkept answer end (Ok spec, asks, is) = stream_lost spec asks
  stream_unkept answer end (Err fault, asks, is) = absurd cc

starting : (p : Preparation) → StartGives p (started p) → IsSetup (prepared_setup p)
starting p (inl is) = is.0
starting p (inr (error, fault, is)) = absurd cc

-- there is no memory for a session that could begin
pub start_unkept : (p : Preparation) → StartGives p (started p) → MayFault (StartGives p) faults.NoMemory
start_unkept p begins = start_lost p (starting p begins)
