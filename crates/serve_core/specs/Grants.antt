-- What bands cost, and how many of them a lease grants.
use Rattle.std.specs.Prelude.{ℕ, zero, suc, ◌-◌, ◌≡◌, ◌≤◌, ◌⊎◌, max, nat_le, List, [], ◌∷◌, length, sum, take}
use Rattle.std.specs.Prelude.{get_or, if◌then◌else◌}

-- what band k costs, the first being band 0
abbrev pub cost_of_band : ℕ → List ℕ → ℕ
cost_of_band k costs = get_or costs k 0

-- what the first k bands cost
abbrev pub cost_of_first : ℕ → List ℕ → ℕ
cost_of_first k costs = sum (take k costs)

-- how many of the next bands, at most so many, the budget pays for
abbrev pub paid_count : (most budget : ℕ) (costs_left : List ℕ) → ℕ
paid_count zero budget costs = 0
paid_count (suc most) budget [] = 0
paid_count (suc most) budget (c ∷ costs) =
    if nat_le c budget then suc (paid_count most (budget - c) costs) else 0

-- the bands that a lease grants: as many as the quantum allows and the budget pays for, but at least one
abbrev pub grant_of : (quantum budget : ℕ) (costs_left : List ℕ) → ℕ
grant_of quantum budget costs_left = max 1 (paid_count quantum budget costs_left)

-- the grants that there may be: at most the quantum and the bands left, and one band, or bands that the
-- budget pays for
pub record IsGrant (quantum budget : ℕ) (costs_left : List ℕ) (grant : ℕ) : Type 0 where
  pub some : 1 ≤ grant
  pub most : grant ≤ quantum
  pub left : grant ≤ length costs_left
  pub paid : (grant ≡ 1) ⊎ (cost_of_first grant costs_left ≤ budget)

-- where a band is left, the grant is the greatest that there may be
abbrev pub GrantLaw : Type 0
GrantLaw =
    (quantum budget : ℕ) (costs_left : List ℕ) → 1 ≤ quantum → 1 ≤ length costs_left
    → let grant = grant_of quantum budget costs_left in
    IsGrant quantum budget costs_left grant × ((g : ℕ) → IsGrant quantum budget costs_left g → g ≤ grant)
