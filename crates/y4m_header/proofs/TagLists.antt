-- The values of a line's tags, read from the left.
use Rattle.std.proofs.Common.{◌≡◌, ℕ, ◌<◌, Bool, true, false, List, [], ◌∷◌, length, slice_get, None}
use Rattle.std.proofs.Common.{Some, Option, All, Any, IsTrue, ◌↔◌, refl, arith, suc, sym, ap}
use Rattle.std.proofs.Common.{subst, ◌≤◌}
use Rattle.std.specs.Str.Parse.{digits_value}
use Rattle.std.proofs.lemmas.List.Elements.{All-nil, All-cons, All-head}
use Rattle.y4m_header.specs.HeaderLine.{IsSize, StatesSize}

-- the first value, and whether there is another
pub record Found : Type 0 where
  pub first : Option (List ℕ)
  pub repeated : Bool

-- what the values that are left make of what was found before them
abbrev pub finish : Option (List ℕ) → Bool → List (List ℕ) → Found
finish first repeated [] = record { first = first; repeated = repeated }
finish None repeated (value ∷ values) = finish (Some value) repeated values
finish (Some value) repeated (another ∷ values) = finish (Some value) true values

-- a first value stays
first_stays : (value : List ℕ) (repeated : Bool) (values : List (List ℕ))
    → (finish (Some value) repeated values).first ≡ Some value
first_stays value repeated [] = refl
first_stays value repeated (another ∷ values) = first_stays value true values

pub first_is : (values : List (List ℕ)) → (finish None false values).first ≡ slice_get values 0
first_is [] = refl
first_is (value ∷ values) = first_stays value false values

repeated_stays : (value : List ℕ) (values : List (List ℕ))
    → (finish (Some value) true values).repeated ≡ true
repeated_stays value [] = refl
repeated_stays value (another ∷ values) = repeated_stays value values

pub repeated_is : (values : List (List ℕ))
    → IsTrue ((finish None false values).repeated) ↔ (1 < length values)
repeated_is [] = (λ e. absurd (cc), λ h. absurd (omega arith))
repeated_is (value ∷ []) = (λ e. absurd (cc), λ h. absurd (omega arith))
repeated_is (value ∷ another ∷ values) = (λ e. omega arith, λ h. repeated_stays value values)

-- what holds of the sizes that are left holds of them all
pub record KeepsSizes (whole left : List (List ℕ)) : Type 0 where
  pub good : All IsSize left → All IsSize whole
  pub bad : Any (λ value. ¬ IsSize value) left → Any (λ value. ¬ IsSize value) whole

pub Any-head : {X : Type 0} (P : X → Type 0) (x : X) (xs : List X) → P x → Any P (x ∷ xs)
Any-head P x xs h = (0, x, omega arith, refl, h)

pub Any-tail : {X : Type 0} (P : X → Type 0) (x : X) (xs : List X) → Any P xs → Any P (x ∷ xs)
Any-tail P x xs h = (suc h.0, h.1, omega (arith, h.2), h.3, h.4)

-- one more size was good
pub keeps_next : (whole : List (List ℕ)) (value : List ℕ) (left : List (List ℕ))
    → KeepsSizes whole (value ∷ left) → IsSize value → KeepsSizes whole left
keeps_next whole value left keeps size = record {
  good = λ all. keeps.good (All-cons IsSize value left size all);
  bad = λ any. keeps.bad (Any-tail (λ v. ¬ IsSize v) value left any);
}

pub keeps_bad : (whole : List (List ℕ)) (value : List ℕ) (left : List (List ℕ))
    → KeepsSizes whole (value ∷ left) → ¬ IsSize value → Any (λ v. ¬ IsSize v) whole
keeps_bad whole value left keeps none = keeps.bad (Any-head (λ v. ¬ IsSize v) value left none)

pub keeps_all : (whole : List (List ℕ)) → KeepsSizes whole [] → All IsSize whole
keeps_all whole keeps = keeps.good (All-nil IsSize)

pub length_none : (given : List (List ℕ)) → None ≡ slice_get given 0 → length given ≡ 0
length_none [] none = refl
length_none (value ∷ more) none = absurd (cc)

-- one value was found
pub states_first : (given : List (List ℕ)) (value : List ℕ) (size : ℕ) → Some value ≡ slice_get given 0
    → length given ≤ 1 → All IsSize given → size ≡ digits_value 10 value → StatesSize given size
states_first [] value size found one good is = absurd (cc)
states_first (first ∷ []) value size found one good is =
    let same : first ≡ value = cc in
    (first, refl, All-head IsSize first [] good, rw same (sym is))
states_first (first ∷ another ∷ more) value size found one good is = absurd (omega arith)

-- one value that is a size is good, once and there
pub all_good : (given : List (List ℕ)) (size : ℕ) → StatesSize given size → All IsSize given
all_good given size states =
    subst (All IsSize) (sym states.1) (All-cons IsSize states.0 [] states.2 (All-nil IsSize))

pub length_one : (given : List (List ℕ)) (size : ℕ) → StatesSize given size → length given ≡ 1
length_one given size states = ap length states.1
