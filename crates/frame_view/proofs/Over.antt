-- A list with another written over it from some place on.
use Rattle.std.proofs.Common.{ℕ, ◌≡◌, ◌+◌, ◌<◌, ◌≤◌, List, ◌++◌, length, take, drop, arith, sym, ◌∙◌, slice_index}
use Rattle.std.proofs.lemmas.List.{with_items_is}
use Rattle.std.proofs.lemmas.Grind.{common_steps}
use Rattle.std.specs.Vec.{with_items_from}
use Rattle.std.specs.declared.vec.Vec.{Vec}

abbrev pub over : List ℕ → ℕ → List ℕ → List ℕ
over xs i ws = take i xs ++ (ws ++ drop (length ws) (drop i xs))

pub over-length : (xs : List ℕ) (i : ℕ) (ws : List ℕ) → i + length ws ≤ length xs → length (over xs i ws) ≡ length xs
over-length xs i ws h = grind (arith, common_steps)

pub over_is : {Z : Type 0} (v : Vec ℕ Z) (i : ℕ) (ws : List ℕ) → i + length ws ≤ v.len → (with_items_from v i ws).items ≡ over v.items i ws
over_is v i ws h = with_items_is v (over v.items i ws) (over-length v.items i ws (omega (arith, v.ok.0)) ∙ sym v.ok.0)

pub over-before : (xs : List ℕ) (i : ℕ) (ws : List ℕ) (k : ℕ) → i + length ws ≤ length xs → k < i
    → slice_index (over xs i ws) k ≡ slice_index xs k
over-before xs i ws k h hk = grind (arith, common_steps)

pub over-inside : (xs : List ℕ) (i : ℕ) (ws : List ℕ) (k : ℕ) → i + length ws ≤ length xs → k < length ws
    → slice_index (over xs i ws) (i + k) ≡ slice_index ws k
over-inside xs i ws k h hk = grind (arith, common_steps)

pub over-after : (xs : List ℕ) (i : ℕ) (ws : List ℕ) (k : ℕ) → i + length ws ≤ length xs → i + length ws ≤ k
    → slice_index (over xs i ws) k ≡ slice_index xs k
over-after xs i ws k h hk = grind (arith, common_steps)
