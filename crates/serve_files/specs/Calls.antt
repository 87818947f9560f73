-- What the calls of a relay and of a lookout say of the state that they share with a thread: as it was found, as it
-- was asked, as it came back, and as it was left.
use Rattle.std.specs.Prelude.{ℕ, ◌≡◌, ⊤, false, List, [], Option, Result}
use Rattle.std.specs.declared.io.Error.{Error}
use Rattle.serve_files.specs.declared.ahead.TheConstants.{ROOM}
use Rattle.serve_files.specs.declared.ahead.Told.TheVariants as told
use Rattle.serve_files.specs.declared.inlet.Inflow.{Inflow}
use Rattle.serve_files.specs.declared.inlet.Inflow.TheVariants as inflow
use Rattle.serve_files.specs.declared.load.Answer.TheVariants as answers
use Rattle.serve_files.specs.declared.lookout.State.{State as Looker}
use Rattle.serve_files.specs.declared.lookout.State.TheVariants as looker
use Rattle.serve_files.specs.declared.relay.Call.{Call}
use Rattle.serve_files.specs.declared.relay.State.{State as Carrier}
use Rattle.serve_files.specs.declared.relay.State.TheVariants as carrier
use Rattle.serve_files.specs.Carriers.{Flushes, Tells, TellsAtOnce, WereAsked, is_busy}
use Rattle.serve_files.specs.Lookers.{Reads, is_looking}

-- a carrier has its writer as it was given, and nothing was handed over yet
abbrev pub Carries : {W : Type 0} → Option (List ℕ) → Carrier W → Type 0
Carries contents state =
    state ≡ carrier.Resting (record { handed = []; contents = contents; answer = answers.Awaited })

-- a front of these bytes was handed over, or nothing, and it is told what came of them by then
abbrev pub Tried : {W : Type 0} → List ℕ → Call W (Result (Option ℕ) Error) → Type 0
Tried buf call =
    WereAsked buf call.found.value call.asked.value × Tells buf call.answer call.came.value call.left.value

-- the same, once nothing was on its way any more
abbrev pub Wrote : {W : Type 0} → List ℕ → Call W (Result ℕ Error) → Type 0
Wrote buf call =
    WereAsked buf call.found.value call.asked.value × (is_busy call.came.value ≡ false)
    × TellsAtOnce buf call.answer call.came.value call.left.value

-- the writer was flushed, once nothing was on its way any more
abbrev pub Flushed : {W U : Type 0} → Result U Error → (came left : Carrier W) → Type 0
Flushed answer came left = (is_busy came ≡ false) × Flushes answer came left

-- a looker has its reader as it was given, and nothing was read yet
abbrev pub LooksOut : {R : Type 0} → Option (List ℕ) → Looker R → Type 0
LooksOut remaining state =
    state ≡ looker.Resting (record { held = []; room = ROOM; left = remaining; told = told.Nothing })

-- it was read of what the looker had read, once it didn't read any more
abbrev pub HasRead : {R : Type 0} → Result ℕ Error → List ℕ → (came left : Looker R) → Type 0
HasRead answer buf came left = (is_looking came ≡ false) × Reads came left answer buf

-- one that can't be asked is taken for ready
abbrev pub IfUnwatched : {R S T : Type 0} → Type 0 → Inflow R S T → Type 0
IfUnwatched says (inflow.Watched lookout) = ⊤
IfUnwatched says flow = says
