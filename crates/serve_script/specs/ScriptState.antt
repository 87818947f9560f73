-- Where the lines of a script so far have led, and what one more line gives.
use Rattle.std.specs.Prelude.{ℕ, List, [], ⊤}
use Rattle.filters.specs.ChainImage.{FrameValue}
use Rattle.filters.specs.declared.error.FilterError.TheVariants.{BadCrop, TooManySteps}
use Rattle.y4m_header.specs.declared.limits.TheConstants.{MOST_FRAMES}
use Rattle.serve_core.specs.Events.{Transcript}
use Rattle.serve_core.specs.Setup.{Setup, StreamSpec}
use Rattle.serve_script.specs.ScriptFault as faults
use Rattle.serve_script.specs.ScriptFault.{Fault}
use Rattle.serve_script.specs.declared.command.AccountCommand.{AccountCommand}

-- how streams are served where their own lines don't say it: the luma rows of a band, and how many frames may
-- come
pub record Settings : Type 0 where
  pub band : ℕ
  pub frames : ℕ

-- before any command: bands of 16 rows, as many frames as a stream may have
abbrev pub first_settings : Settings
first_settings = record { band = 16; frames = MOST_FRAMES }

-- what a session script has set up before its `start`
pub record Preparation : Type 0 where
  pub workers : ℕ
  pub quantum : ℕ
  -- for the streams that follow
  pub settings : Settings
  -- the streams, by number: their names, and what they are served with
  pub names : List (List ℕ)
  pub streams : List StreamSpec

-- before any command: one worker, 4 bands a lease
abbrev pub unprepared : Preparation
unprepared = record { workers = 1; quantum = 4; settings = first_settings; names = []; streams = [] }

-- a session script after its `start`: its streams' names, how those that are admitted are served, what its
-- machine was made for, and what the machine was asked and answered
pub record Session : Type 0 where
  pub names : List (List ℕ)
  pub settings : Settings
  pub setup : Setup
  pub past : Transcript FrameValue FrameValue

-- where the lines so far have led
pub data ScriptState : Type 0 where
  -- no line was a command
  Fresh : ScriptState
  -- these were the commands of an account script, the latest first
  OnAccount : (past : List AccountCommand) → ScriptState
  InSetup : (preparation : Preparation) → ScriptState
  InSession : (session : Session) → ScriptState

-- what a line gives: nothing, an answer that is printed and where it leads, or a fault
pub data Given : Type 0 where
  Silent : Given
  Prints : (answer : List ℕ) (next : ScriptState) → Given
  Faults : (fault : Fault) → Given

-- faults of a stream's line that are found after its operations were kept
abbrev pub ComesLate : Fault → Type 0
ComesLate (faults.BadHeader error) = ⊤
ComesLate (faults.BadChain BadCrop) = ⊤
ComesLate (faults.BadChain TooManySteps) = ⊤
ComesLate fault = ⊥

-- a line that gives this takes memory before it is known
abbrev pub TakesMemory : Given → Type 0
TakesMemory Silent = ⊥
TakesMemory (Prints answer next) = ⊤
TakesMemory (Faults fault) = ComesLate fault

-- the fault of a line that gives such a thing: it is what the line gives, or there is no memory for what it
-- gives
abbrev pub MayFault : (Given → Type 0) → Fault → Type 0
MayFault Gives faults.NoMemory = (given : Given) → Gives given → TakesMemory given
MayFault Gives fault = Gives (Faults fault)
