-- Which grants there may be.
use Rattle.std.proofs.Common.{ℕ, zero, suc, ◌+◌, ◌-◌, ◌≡◌, ◌≤◌, ◌<◌, ◌⊎◌, inl, inr, true, false, nat_le, max}
use Rattle.std.proofs.Common.{refl, sym, subst, arith, List, [], ◌∷◌, length, take}
use Rattle.std.proofs.lemmas.Bool.Decides.{nat_tests}
use Rattle.serve_core.specs.Grants.{GrantLaw, IsGrant, cost_of_first, grant_of, paid_count}
use Rattle.serve_core.proofs.Bands.Costs.{sum_cons}

test_le : (a b : ℕ) → ((a ≤ b) × (nat_le a b ≡ true)) ⊎ ((b < a) × (nat_le a b ≡ false))
test_le a b = grind (arith, nat_tests)

-- a band that the budget pays for, one that it does not, and no band
pub paid_yes : (n b c : ℕ) (costs : List ℕ) → c ≤ b
    → paid_count (suc n) b (c ∷ costs) ≡ suc (paid_count n (b - c) costs)
paid_yes n b c costs l = elim (test_le c b) [ inl p ↦ rw p.1 refl | inr p ↦ absurd (omega (arith, p.0)) ]

pub paid_no : (n b c : ℕ) (costs : List ℕ) → b < c → paid_count n b (c ∷ costs) ≡ 0
paid_no zero b c costs l = refl
paid_no (suc n) b c costs l = elim (test_le c b) [ inl p ↦ absurd (omega (arith, p.0)) | inr p ↦ rw p.1 refl ]

pub paid_none : (n b : ℕ) → paid_count n b [] ≡ 0
paid_none zero b = refl
paid_none (suc n) b = refl

-- what is paid for is within each limit
pub paid_most : (n b : ℕ) (costs : List ℕ) → paid_count n b costs ≤ n
paid_most zero b costs = omega arith
paid_most (suc n) b [] = omega arith
paid_most (suc n) b (c ∷ costs) =
    elim (test_le c b) [
      | inl p ↦ rw p.1 (omega (arith, paid_most n (b - c) costs))
      | inr p ↦ rw p.1 (omega arith)
    ]

pub paid_left : (n b : ℕ) (costs : List ℕ) → paid_count n b costs ≤ length costs
paid_left zero b costs = omega arith
paid_left (suc n) b [] = omega arith
paid_left (suc n) b (c ∷ costs) =
    elim (test_le c b) [
      | inl p ↦ rw p.1 (omega (arith, paid_left n (b - c) costs))
      | inr p ↦ rw p.1 (omega arith)
    ]

paid_within : (n b : ℕ) (costs : List ℕ) → cost_of_first (paid_count n b costs) costs ≤ b
paid_within zero b costs = omega arith
paid_within (suc n) b [] = omega arith
paid_within (suc n) b (c ∷ costs) =
    elim (test_le c b) [
      | inl p ↦
          let rest = paid_within n (b - c) costs in
          let all : cost_of_first (suc (paid_count n (b - c) costs)) (c ∷ costs) ≡ c + cost_of_first
          (paid_count n (b - c) costs) costs = sum_cons c (take (paid_count n (b - c) costs) costs) in
          subst (λ (k : ℕ). cost_of_first k (c ∷ costs) ≤ b) (sym (paid_yes n b c costs p.0))
          (omega (arith, p.0, rest, all))
      | inr p ↦ subst (λ (k : ℕ). cost_of_first k (c ∷ costs) ≤ b) (sym (paid_no (suc n) b c costs p.0))
          (omega arith)
    ]

-- and nothing more is
paid_greatest : (n b g : ℕ) (costs : List ℕ) → g ≤ n → g ≤ length costs → cost_of_first g costs ≤ b
    → g ≤ paid_count n b costs
paid_greatest n b zero costs l m h = omega arith
paid_greatest zero b (suc g) costs l m h = absurd (omega arith)
paid_greatest (suc n) b (suc g) [] l m h = absurd (omega arith)
paid_greatest (suc n) b (suc g) (c ∷ costs) l m h =
    let all : c + cost_of_first g costs ≤ b = omega (arith, h, sum_cons c (take g costs)) in
    elim (test_le c b) [
      | inl p ↦ rw p.1 (let rest =
          paid_greatest n (b - c) g costs (omega arith) (omega arith) (omega (arith, all)) in
          omega (arith, rest))
      | inr p ↦ absurd (omega (arith, all, p.0))
    ]

max_cases : (a b : ℕ) → ((max a b ≡ a) × (b ≤ a)) ⊎ ((max a b ≡ b) × (a ≤ b))
max_cases a b = grind arith

pub grant_some : (q b : ℕ) (costs : List ℕ) → 1 ≤ grant_of q b costs
grant_some q b costs = omega arith

pub grant_left : (q b : ℕ) (costs : List ℕ) → 1 ≤ length costs → grant_of q b costs ≤ length costs
grant_left q b costs l = omega (arith, paid_left q b costs)

grant_paid : (q b : ℕ) (costs : List ℕ) → (grant_of q b costs ≡ 1)
    ⊎ (cost_of_first (grant_of q b costs) costs ≤ b)
grant_paid q b costs =
    elim (max_cases 1 (paid_count q b costs)) [
      | inl p ↦ inl p.0
      | inr p ↦ inr (rw p.0 (paid_within q b costs))
    ]

greatest : (q b g : ℕ) (costs : List ℕ) → IsGrant q b costs g → g ≤ grant_of q b costs
greatest q b g costs h =
    elim h.paid [
      | inl p ↦ omega (arith, p)
      | inr p ↦ omega (arith, paid_greatest q b g costs h.most h.left p)
    ]

pub grant_is : GrantLaw
grant_is q b costs l m = (
  record {
    some = grant_some q b costs;
    most = omega (arith, paid_most q b costs, l);
    left = grant_left q b costs m;
    paid = grant_paid q b costs;
  },
  λ g h. greatest q b g costs h,
)
