use Rattle.std.specs.Prelude.{◌≡◌, ℕ, ◌+◌, ◌*◌, ◌<◌, ◌≤◌, List, length, map, take, drop, get_or, Option, Some}
use Rattle.std.specs.Prelude.{None, MatchOption}
use Rattle.cbs_account.specs.declared.limits.TheConstants.{MOST_STREAMS}
use Rattle.edf_pool.specs.declared.node.Ready.{Ready}
use Rattle.edf_pool.specs.Earliest.{IsEarliest, NoneReady}
use Rattle.edf_pool.specs.Node.{deadline_of, lesser}

abbrev pub node_at : List (Option Ready) → ℕ → Option Ready
node_at nodes i = get_or nodes i None

-- node i holds the lesser of nodes 2 * i and 2 * i + 1
abbrev pub IsWinner : List (Option Ready) → ℕ → Type 0
IsWinner nodes i = node_at nodes i ≡ lesser (node_at nodes (2 * i)) (node_at nodes (2 * i + 1))

-- each inner node
abbrev pub AreWinners : List (Option Ready) → Type 0
AreWinners nodes = (i : ℕ) → 1 ≤ i → i < MOST_STREAMS → IsWinner nodes i

-- node 64 + s holds stream s, or none
abbrev pub AreLeaves : ℕ → List (Option Ready) → Type 0
AreLeaves streams nodes =
    (s : ℕ) (ready : Ready) → node_at nodes (MOST_STREAMS + s) ≡ Some ready
    → (ready.stream ≡ s) × (s < streams)

-- the deadlines by stream, as the leaves show them
abbrev pub deadlines : ℕ → List (Option Ready) → List (Option ℕ)
deadlines streams nodes = map deadline_of (take streams (drop MOST_STREAMS nodes))

-- node 1 holds the earliest of all
abbrev pub IsRoot : ℕ → List (Option Ready) → Type 0
IsRoot streams nodes =
    let all = deadlines streams nodes in
    MatchOption (node_at nodes 1) (NoneReady all) (λ ready. IsEarliest all ready.stream)

-- a winner tree of so many streams
pub record IsTree (streams : ℕ) (nodes : List (Option Ready)) : Type 0 where
  pub size : length nodes ≡ 2 * MOST_STREAMS
  pub some : 1 ≤ streams
  pub most : streams ≤ MOST_STREAMS
  pub leaves : AreLeaves streams nodes
  pub winners : AreWinners nodes
  pub root : IsRoot streams nodes
