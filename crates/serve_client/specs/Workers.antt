-- What a worker adds to its seat's calls.
use Rattle.std.specs.Prelude.{ℕ, ◌≡◌, ◌≢◌, ◌<◌, ◌⊎◌, List, [], ◌∷◌, ◌++◌, ⊤, reverse}
use Rattle.serve_core.specs.declared.refusal.Refusal.TheVariants as cores
use Rattle.serve_hub.specs.declared.entry.Act.{Act}
use Rattle.serve_hub.specs.declared.entry.Act.TheVariants.{Leased, Settled}
use Rattle.serve_hub.specs.declared.entry.Entry.{Entry}
use Rattle.serve_hub.specs.declared.entry.Seat.TheVariants.{Worker}
use Rattle.serve_hub.specs.declared.refusal.Came.TheVariants as came
use Rattle.serve_hub.specs.declared.refusal.Refusal.{Refusal}
use Rattle.serve_hub.specs.declared.refusal.Refusal.TheVariants.{Core, Torn}
use Rattle.serve_hub.specs.Calls.{IsEndOfLeases, IsSettleRefusal}
use Rattle.serve_hub.specs.Ends.{acts_of}
use Rattle.serve_hub.specs.Seats.{WorkSeatValue}

-- leases, each followed by the settlement of its whole grant
abbrev pub AreSpent : List Act → Type 0
AreSpent [] = ⊤
AreSpent (Leased stream number grant ∷ Settled bands finished ∷ calls) = (bands ≡ grant) × AreSpent calls
AreSpent calls = ⊥

-- by a journal that has the latest entry first, so are the calls of each of so many workers
abbrev pub HaveSpent : (workers : ℕ) → List Entry → Type 0
HaveSpent workers journal = (n : ℕ) → n < workers → AreSpent (acts_of (Worker n) (reverse journal))

-- such calls of a worker, and then one more lease, which wasn't settled
pub record HasLast (calls : List Act) : Type 0 where
  pub spent : List Act
  pub stream : ℕ
  pub number : ℕ
  pub grant : ℕ
  pub are_spent : AreSpent spent
  pub last : calls ≡ spent ++ Leased stream number grant ∷ []

-- a seat after these calls more
abbrev pub adding : List Act → WorkSeatValue → WorkSeatValue
adding calls seat = record seat { calls = record seat.calls { list = seat.calls.list ++ calls } }

-- why a worker ends behind these calls, with its seat as it is then: it gets no more leases; its last lease
-- isn't settled and comes back; or that was settled, and finished a frame of another number
abbrev pub EndsWork : List Act → WorkSeatValue → Refusal → Type 0
EndsWork calls seat e =
    (AreSpent calls × IsEndOfLeases seat e × (e ≢ Core cores.NoneReady))
    ⊎ ((HasLast calls × IsSettleRefusal seat e) ⊎ (AreSpent calls × ((n : ℕ) × (e ≡ Torn (came.Number n)))))

-- a worker leased and settled until this refusal, and all else of its seat stays
pub record Works (old new : WorkSeatValue) (e : Refusal) : Type 0 where
  pub added : List Act
  pub seat : new ≡ adding added old
  pub ends : EndsWork added new e
