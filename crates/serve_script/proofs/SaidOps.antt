-- The operations that a text says: they are some, and each blur's radius is one.
use Rattle.std.proofs.Common.{◌≡◌, ℕ, suc, ◌≤◌, Bool, true, false, cond, ◌&&◌, ◌==◌, nat_le, if◌then◌else◌}
use Rattle.std.proofs.Common.{All, List, [], ◌∷◌, length, bytes_eq, find, Option, Some, None, IfSome}
use Rattle.std.proofs.Common.{option_and_then, option_map, refl, ap, subst, arith}
use Rattle.std.proofs.lemmas.Bool.{leb-true}
use Rattle.std.proofs.lemmas.List.Elements.{All-from_recursion}
use Rattle.std.specs.List.{AllByRecursion, before_first}
use Rattle.y4m_header.specs.Text.{parts, text_after}
use Rattle.filters.specs.Image.{HasGoodRadius}
use Rattle.filters.specs.declared.limits.TheConstants.{MOST_RADIUS}
use Rattle.filters.specs.OpsText.{NumberForm, all_ops, blur_of, clamp_of, crop_of, number_forms, numbered_op}
use Rattle.filters.specs.OpsText.{numbers, op_of_part, op_said, ops_of, plain_forms, plain_op, threshold_of}
use Rattle.filters.specs.declared.op.Op.{Op}
use Rattle.filters.specs.declared.op.Op.TheVariants.{Blur}
use Rattle.serve_script.proofs.ScriptParts.{some_parts}

-- what holds of each holds of the one that is found
found_holds : {X : Type 0} (P : X → Type 0) (test : X → Bool) (xs : List X) → AllByRecursion P xs → IfSome (find test xs) P
found_holds P test [] each = tt
found_holds P test (x ∷ xs) each = by (test x) (found_holds P test xs each.1)
  where
    by : (passes : Bool) → IfSome (find test xs) P → IfSome (cond passes (Some x) (find test xs)) P
    by true later = each.0
    by false later = later

then_holds : {X Y : Type 0} (P : X → Type 0) (Q : Y → Type 0) (f : X → Option Y) (o : Option X)
    → IfSome o P → ((x : X) → P x → IfSome (f x) Q) → IfSome (option_and_then f o) Q
then_holds P Q f None h next = tt
then_holds P Q f (Some x) h next = next x h

mapped_holds : {X Y : Type 0} (P : Y → Type 0) (f : X → Y) (o : Option X) → IfSome o (λ x. P (f x)) → IfSome (option_map f o) P
mapped_holds P f None h = tt
mapped_holds P f (Some x) h = h

if_holds : {X : Type 0} (P : X → Type 0) (test : Bool) (x : X) → P x → IfSome (if test then Some x else None) P
if_holds P true x h = h
if_holds P false x h = tt

threshold_good : (values : List ℕ) → IfSome (threshold_of values) HasGoodRadius
threshold_good [] = tt
threshold_good (limit ∷ []) = if_holds HasGoodRadius (nat_le limit 255) _ tt
threshold_good (limit ∷ next ∷ more) = tt

clamp_good : (values : List ℕ) → IfSome (clamp_of values) HasGoodRadius
clamp_good [] = tt
clamp_good (low ∷ []) = tt
clamp_good (low ∷ high ∷ []) = if_holds HasGoodRadius (nat_le low high && nat_le high 255) _ tt
clamp_good (low ∷ high ∷ next ∷ more) = tt

crop_good : (values : List ℕ) → IfSome (crop_of values) HasGoodRadius
crop_good [] = tt
crop_good (x ∷ []) = tt
crop_good (x ∷ y ∷ []) = tt
crop_good (x ∷ y ∷ width ∷ []) = tt
crop_good (x ∷ y ∷ width ∷ height ∷ []) = tt
crop_good (x ∷ y ∷ width ∷ height ∷ next ∷ more) = tt

radius_good : (radius : ℕ) (some few : Bool) → nat_le 1 radius ≡ some → nat_le radius MOST_RADIUS ≡ few
    → IfSome (if some && few then Some (Blur (record { radius = radius })) else None) HasGoodRadius
radius_good radius true true some few = (leb-true 1 radius some, leb-true radius MOST_RADIUS few)
radius_good radius true false some few = tt
radius_good radius false few some less = tt

blur_good : (values : List ℕ) → IfSome (blur_of values) HasGoodRadius
blur_good [] = tt
blur_good (radius ∷ []) = radius_good radius (nat_le 1 radius) (nat_le radius MOST_RADIUS) refl refl
blur_good (radius ∷ next ∷ more) = tt

abbrev GivesGood : NumberForm → Type 0
GivesGood form = (values : List ℕ) → IfSome (form.op values) HasGoodRadius

plain_good : (name : List ℕ) → IfSome (plain_op name) HasGoodRadius
plain_good name =
    mapped_holds HasGoodRadius (λ form. form.op) (find (λ form. bytes_eq name form.name) plain_forms)
    (found_holds (λ form. HasGoodRadius form.op) (λ form. bytes_eq name form.name) plain_forms (tt, (tt, (tt, tt))))

numbered_good : (name : List ℕ) (said : Option (List ℕ)) → IfSome (numbered_op name said) HasGoodRadius
numbered_good name said =
    then_holds GivesGood HasGoodRadius (λ form. option_and_then form.op said)
    (find (λ form. bytes_eq name form.name) number_forms)
    (found_holds GivesGood (λ form. bytes_eq name form.name) number_forms (threshold_good, (clamp_good, (crop_good, (blur_good, tt)))))
    (λ form good. by form good said)
  where
    by : (form : NumberForm) → GivesGood form → (said : Option (List ℕ)) → IfSome (option_and_then form.op said) HasGoodRadius
    by form good None = tt
    by form good (Some values) = good values

said_good : (name : List ℕ) (text : Option (List ℕ)) → IfSome (op_said name text) HasGoodRadius
said_good name None = plain_good name
said_good name (Some text) = numbered_good name (numbers text)

-- what parts say has good radii, and is as many operations as there are parts
abbrev IsSaid : List (List ℕ) → List Op → Type 0
IsSaid texts ops = AllByRecursion HasGoodRadius ops × (length ops ≡ length texts)

all_said : (texts : List (List ℕ)) → IfSome (all_ops texts) (IsSaid texts)
all_said [] = (tt, refl)
all_said (text ∷ more) =
    by (op_of_part text) (said_good (before_first (λ byte. byte == 58) text) (text_after 58 text)) (all_ops more) (all_said more)
  where
    by : (op : Option Op) → IfSome op HasGoodRadius → (ops : Option (List Op)) → IfSome ops (IsSaid more)
        → IfSome (option_and_then (λ op. option_map (λ ops. op ∷ ops) ops) op) (IsSaid (text ∷ more))
    by None good ops said = tt
    by (Some op) good None said = tt
    by (Some op) good (Some ops) said = ((good, said.0), ap suc said.1)

pub record AreSaid (ops : List Op) : Type 0 where
  pub radii : All HasGoodRadius ops
  pub some : 1 ≤ length ops

pub said_ops : (text : List ℕ) (ops : List Op) → ops_of text ≡ Some ops → AreSaid ops
said_ops text ops is =
    let said : IsSaid (parts 43 text) ops = subst (λ o. IfSome o (IsSaid (parts 43 text))) is (all_said (parts 43 text)) in
    record {
      radii = All-from_recursion HasGoodRadius ops said.0;
      some = let parts_some = some_parts 43 text in omega (arith, said.1, parts_some);
    }
