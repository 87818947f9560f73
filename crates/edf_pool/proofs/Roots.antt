-- Node 1 of a winner tree holds the earliest of all.
use Rattle.std.proofs.Common.{◌≡◌, ℕ, zero, suc, ◌+◌, ◌-◌, ◌*◌, ◌/◌, ◌<◌, ◌≤◌, ◌⊎◌, inl, inr, List, length}
use Rattle.std.proofs.Common.{replicate, Option, Some, None, MatchOption, refl, sym, ◌∙◌, subst, arith}
use Rattle.std.proofs.lemmas.List.{length-replicate, get_or-replicate, get_or_past}
use Rattle.edf_pool.specs.declared.node.Ready.{Ready}
use Rattle.edf_pool.specs.Earliest.{IsReady, IsEarliest, NoneReady}
use Rattle.edf_pool.specs.Tree.{node_at, AreLeaves, AreWinners, IsTree, deadlines}
use Rattle.edf_pool.proofs.Leaves.{IsTold, leaf_of_ready, leaves_told, length-told, slice_get-deadlines}
use Rattle.edf_pool.proofs.Orders.{IsAtMost, at_most_itself, at_most_along, earlier, lower}
use Rattle.edf_pool.proofs.Orders.{lesser_at_most_left, lesser_at_most_right, lesser_either}
use Rattle.edf_pool.proofs.Winners.{below_or}

even_or_odd : (j : ℕ) → (j ≡ 2 * (j / 2)) ⊎ (j ≡ 2 * (j / 2) + 1)
even_or_odd j = grind arith

-- a node is at most each of the two below it
node_above : (nodes : List (Option Ready)) (j : ℕ) → AreWinners nodes → 2 ≤ j → j < 128
    → IsAtMost (node_at nodes (j / 2)) (node_at nodes j)
node_above nodes j winners more within =
    let here = winners (j / 2) (omega arith) (omega arith) in
    let left = node_at nodes (2 * (j / 2)) in let right = node_at nodes (2 * (j / 2) + 1) in
    let at_most : ℕ → Type 0 = λ k. IsAtMost (node_at nodes (j / 2)) (node_at nodes k) in
    elim (even_or_odd j) [
      | inl even ↦ subst at_most (sym even) (rw here (lesser_at_most_left left right))
      | inr odd ↦ subst at_most (sym odd) (rw here (lesser_at_most_right left right))
    ]

-- node 1 is at most each node
root_at_most : (nodes : List (Option Ready)) (steps j : ℕ) → AreWinners nodes → 1 ≤ j → j < 128 → j ≤ steps + 1
    → IsAtMost (node_at nodes 1) (node_at nodes j)
root_at_most nodes zero j winners some within near =
    let e : j ≡ 1 = omega arith in rw e (at_most_itself (node_at nodes 1))
root_at_most nodes (suc steps) j winners some within near =
    elim (below_or j 2) [
      | inl one ↦ let e : j ≡ 1 = omega arith in rw e (at_most_itself (node_at nodes 1))
      | inr more ↦
          at_most_along (node_at nodes 1) (node_at nodes (j / 2)) (node_at nodes j)
          (root_at_most nodes steps (j / 2) winners (omega arith) (omega arith) (omega arith))
          (node_above nodes j winners more within)
    ]

leaf_is_own : (streams : ℕ) (nodes : List (Option Ready)) (i : ℕ) (ready : Ready) → AreLeaves streams nodes → 64 ≤ i
    → node_at nodes i ≡ Some ready → node_at nodes (64 + ready.stream) ≡ Some ready
leaf_is_own streams nodes i ready leaves leaf e =
    let there : 64 + (i - 64) ≡ i = omega arith in
    let own = leaves (i - 64) ready (rw there e) in
    let same : i ≡ 64 + ready.stream = omega (arith, own.0) in
    subst (λ (k : ℕ). node_at nodes k ≡ Some ready) same e

-- what a node holds stands at its own leaf
at_own_leaf : (streams : ℕ) (nodes : List (Option Ready)) (steps i : ℕ) (ready : Ready)
    → AreLeaves streams nodes → AreWinners nodes → 1 ≤ i → 64 ≤ i + steps
    → node_at nodes i ≡ Some ready → node_at nodes (64 + ready.stream) ≡ Some ready
at_own_leaf streams nodes zero i ready leaves winners some near e = leaf_is_own streams nodes i ready leaves (omega arith) e
at_own_leaf streams nodes (suc steps) i ready leaves winners some near e =
    elim (below_or i 64) [
      | inl inner ↦
          let here = winners i some inner in
          elim (lesser_either (node_at nodes (2 * i)) (node_at nodes (2 * i + 1))) [
            | inl left ↦
                at_own_leaf streams nodes steps (2 * i) ready leaves winners (omega arith) (omega arith)
                (sym left ∙ sym here ∙ e)
            | inr right ↦
                at_own_leaf streams nodes steps (2 * i + 1) ready leaves winners (omega arith) (omega arith)
                (sym right ∙ sym here ∙ e)
          ]
      | inr leaf ↦ leaf_is_own streams nodes i ready leaves leaf e
    ]

module _ (streams : ℕ) (nodes : List (Option Ready)) (size : length nodes ≡ 128) (most : streams ≤ 64)
    (leaves : AreLeaves streams nodes) (winners : AreWinners nodes) where
  abbrev all : List (Option ℕ)
  all = deadlines streams nodes

  -- node 1, whatever it holds, is at most the node of each ready stream
  at_most_ready : (top : Option Ready) → node_at nodes 1 ≡ top → (s d : ℕ) → IsReady all s d
      → (ready : Ready) × (ready.deadline ≡ d) × (ready.stream ≡ s) × IsAtMost top (Some ready)
  at_most_ready top e s d is =
      let leaf = leaf_of_ready streams nodes s d size most is in
      let own = leaves s leaf.0 leaf.1 in
      let within : s < 64 = omega (arith, own.1) in
      let first = root_at_most nodes 127 (64 + s) winners (omega arith) (omega arith) (omega arith) in
      (leaf.0, leaf.2, own.0, rw (sym e, sym leaf.1) first)

  root_is : (top : Option Ready) → node_at nodes 1 ≡ top → MatchOption top (NoneReady all) (λ ready. IsEarliest all ready.stream)
  root_is None e = λ s d is. (at_most_ready None e s d is).3
  root_is (Some top) e =
      let leaf = at_own_leaf streams nodes 63 1 top leaves winners (omega arith) (omega arith) e in
      let own = leaves top.stream top leaf in
      record {
        deadline = top.deadline;
        ready = slice_get-deadlines streams nodes top.stream size most own.1 ∙ rw leaf refl;
        earliest = λ t d is. let other = at_most_ready (Some top) e t d is in earlier top other.0 d other.1 other.3;
        lowest = λ t is. let other = at_most_ready (Some top) e t top.deadline is in lower top other.0 t other.1 other.2 other.3;
      }

-- leaves and winners make a tree
tree_is : (streams : ℕ) (nodes : List (Option Ready)) → length nodes ≡ 128 → 1 ≤ streams → streams ≤ 64
    → AreLeaves streams nodes → AreWinners nodes → IsTree streams nodes
tree_is streams nodes size some most leaves winners = record {
  size = size;
  some = some;
  most = most;
  leaves = leaves;
  winners = winners;
  root = root_is streams nodes size most leaves winners (node_at nodes 1) refl;
}

abbrev pub nobody : Option Ready
nobody = None

node_at-replicate : (i : ℕ) → node_at (replicate 128 nobody) i ≡ nobody
node_at-replicate i =
    elim (below_or i 128) [
      | inl within ↦ get_or-replicate 128 i nobody nobody within
      | inr past ↦ get_or_past (replicate 128 nobody) i nobody (rw (length-replicate 128 nobody) past)
    ]

-- a tree in which no stream is ready
pub tree_of_nobody : (streams : ℕ) → 1 ≤ streams → streams ≤ 64 → IsTree streams (replicate 128 nobody)
tree_of_nobody streams some most =
    tree_is streams (replicate 128 nobody) (length-replicate 128 nobody) some most
    (λ s ready e. absurd (let none = node_at-replicate (64 + s) in cc))
    (λ i a b. rw (node_at-replicate i, node_at-replicate (2 * i), node_at-replicate (2 * i + 1)) refl)

-- a tree that was told of one stream
pub tree_told : (streams : ℕ) (nodes told : List (Option Ready)) (s : ℕ) (deadline : Option ℕ) → s < streams
    → IsTold nodes told s deadline → IsTree streams nodes → AreWinners told → IsTree streams told
tree_told streams nodes told s deadline within is old winners =
    tree_is streams told (length-told nodes told s deadline old.size is) old.some old.most
    (leaves_told streams nodes told s deadline old.size old.most within is old.leaves) winners

-- a tree with one stream more
pub tree_grown : (streams : ℕ) (nodes : List (Option Ready)) → streams < 64 → IsTree streams nodes
    → IsTree (streams + 1) nodes
tree_grown streams nodes room old =
    tree_is (streams + 1) nodes old.size (omega arith) (omega arith)
    (λ s ready e. let own = old.leaves s ready e in (own.0, omega (arith, own.1))) old.winners
