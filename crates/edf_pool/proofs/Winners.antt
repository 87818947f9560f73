-- The inner nodes while a leaf is written and each node above it is told.
use Rattle.std.proofs.Common.{ℕ, ◌+◌, ◌*◌, ◌/◌, ◌≡◌, ◌≢◌, ◌≤◌, ◌<◌, ◌^◌, ◌⊎◌, inl, inr, List, add-one, lit<}
use Rattle.std.proofs.Common.{length, set, Option, None, refl, sym, arith, subst}
use Rattle.std.proofs.lemmas.List.{get_or-set_same, get_or-set_other}
use Rattle.std.proofs.Math.Nat.{mul-le-mul_left, pow-suc, pow-le-pow_right, mul_assoc}
use Rattle.edf_pool.specs.declared.node.Ready.{Ready}
use Rattle.edf_pool.specs.Node.{lesser}
use Rattle.edf_pool.specs.Tree.{node_at, IsWinner}

-- each inner node but j is a winner
abbrev pub AreWinnersBut : List (Option Ready) → ℕ → Type 0
AreWinnersBut nodes j = (i : ℕ) → 1 ≤ i → i < 64 → i ≢ j → IsWinner nodes i

pub same_or : (a b : ℕ) → (a ≡ b) ⊎ (a ≢ b)
same_or a b = grind arith

pub below_or : (i n : ℕ) → (i < n) ⊎ (n ≤ i)
below_or i n = grind arith

-- a write leaves each winner but that node and the one above it
pub winner-set_elsewhere : (nodes : List (Option Ready)) (j i : ℕ) (v : Option Ready) → i ≢ j → i ≢ j / 2
    → IsWinner nodes i → IsWinner (set nodes j v) i
winner-set_elsewhere nodes j i v not_here not_above h =
    rw (
      get_or-set_other nodes j i v None not_here,
      get_or-set_other nodes j (2 * i) v None (λ e. not_above (omega arith)),
      get_or-set_other nodes j (2 * i + 1) v None (λ e. not_above (omega arith)),
    ) h

-- the one node that was no winner is told
pub winners-set_winner : (nodes : List (Option Ready)) (j : ℕ) → 1 ≤ j → j < 64 → length nodes ≡ 128 → AreWinnersBut nodes j
    → AreWinnersBut (set nodes j (lesser (node_at nodes (2 * j)) (node_at nodes (2 * j + 1)))) (j / 2)
winners-set_winner nodes j some inner size h i a b n =
    let v = lesser (node_at nodes (2 * j)) (node_at nodes (2 * j + 1)) in
    elim (same_or i j) [
      | inl e ↦
          subst (λ (m : ℕ). IsWinner (set nodes j v) m) (sym e) (rw (
            get_or-set_same nodes j v None (omega arith),
            get_or-set_other nodes j (2 * j) v None (λ q. omega arith),
            get_or-set_other nodes j (2 * j + 1) v None (λ q. omega arith),
          ) refl)
      | inr e ↦ winner-set_elsewhere nodes j i v e n (h i a b e)
    ]

-- one step up: twice the power, half the node
pub halved : (u i : ℕ) → 2 ^ u * i ≤ 127 → 2 ^ (u + 1) * (i / 2) ≤ 127
halved u i h =
    let twice : 2 * (i / 2) ≤ i = omega arith in
    let grown : 2 ^ u * (2 * (i / 2)) ≤ 2 ^ u * i = mul-le-mul_left (2 ^ u) twice in
    rw (add-one, pow-suc, mul_assoc) (omega arith)

pub at_most_six : (u : ℕ) → 2 ^ u ≤ 127 → u ≤ 6
at_most_six u h =
    elim (below_or u 7) [
      | inl few ↦ omega arith
      | inr more ↦ absurd (let big : 2 ^ 7 ≤ 2 ^ u = pow-le-pow_right (lit< tt) more in omega arith)
    ]
