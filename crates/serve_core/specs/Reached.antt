-- States that legal transcripts of setups lead to, and what leads on from them.
use Rattle.std.specs.Prelude.{◌≡◌, ◌≤◌, ◌↔◌, length}
use Rattle.cbs_account.specs.declared.limits.TheConstants.{MOST_STREAMS, MOST_WORKERS}
use Rattle.serve_core.specs.Events.{Transcript, joined}
use Rattle.serve_core.specs.Leads.{Leads}
use Rattle.serve_core.specs.Rules.{IsLegal}
use Rattle.serve_core.specs.Setup.{ImageRelation, IsSetup, Setup, SizeTest}
use Rattle.serve_core.specs.States.{State, state_of}

module _ {F G : Type 0} (measures : SizeTest F) (is_image : ImageRelation F G) where
  -- a legal transcript of a setup leads to the state m
  pub record IsReached (m : State F) : Type 0 where
    pub setup : Setup
    pub is_setup : IsSetup setup
    pub past : Transcript F G
    pub legal : IsLegal measures is_image setup past
    pub state : state_of setup past ≡ m

  -- behind each legal transcript that leads to the state m, p is legal, and leads to n
  abbrev pub LeadsBehind : State F → Transcript F G → State F → Type 0
  LeadsBehind m p n =
      (setup : Setup) (q : Transcript F G) → IsLegal measures is_image setup q → state_of setup q ≡ m
      → IsLegal measures is_image setup (joined q p) × (state_of setup (joined q p) ≡ n)

  -- some legal transcript leads to the state m, and behind each such one p is legal, and leads to n
  pub record LeadsOver (m : State F) (p : Transcript F G) (n : State F) : Type 0 where
    pub reached : IsReached m
    pub behind : LeadsBehind m p n

  -- from a state that is reached: that is what it is to lead
  abbrev pub OverLaw : Type 0
  OverLaw =
      (m n : State F) (p : Transcript F G) → LeadsOver m p n ↔ (IsReached m × Leads measures is_image m p n)

  -- and then the state that it leads to is reached too
  abbrev pub ReachedLaw : Type 0
  ReachedLaw = (m n : State F) (p : Transcript F G) → LeadsOver m p n → IsReached n

  -- one transcript leads from m to n and another from n to o: the first and then the second lead from m to o
  abbrev pub OverJoinLaw : Type 0
  OverJoinLaw =
      (m n o : State F) (p q : Transcript F G) → LeadsOver m p n → LeadsOver n q o
      → LeadsOver m (joined p q) o

  -- what is reached has at most 64 streams and 16 workers
  abbrev pub FewLaw : Type 0
  FewLaw = (m : State F) → IsReached m → (length m.streams ≤ MOST_STREAMS) × (length m.workers ≤ MOST_WORKERS)
