-- Streams that stand in a table by their borrowed names.
use Rattle.std.proofs.Common.{◌≡◌, ℕ, ◌+◌, Bool, true, false, true≢false, cond, not, ◌||◌, nat_lt, List, []}
use Rattle.std.proofs.Common.{◌∷◌, ◌++◌, map, length, take, position, bytes_eq, Option, unwrap_or, Some, None}
use Rattle.std.proofs.Common.{refl, sym, ap, ◌∙◌, arith, Bor}
use Rattle.std.proofs.lemmas.Bool.{ltb-false}
use Rattle.std.proofs.lemmas.List.{length-map, map_push, take-map}
use Rattle.std.proofs.lemmas.List.Sums.{prefix_len-le-length}
use Rattle.std.specs.List.{list_any, position_or_len}
use Rattle.std.specs.Map.{keys_of}
use Rattle.frame_view.specs.declared.geometry.Geometry.{Geometry}
use Rattle.indexmap.specs.IndexMap.{insert_entry}
use Rattle.serve_core.specs.Seen.{heard}
use Rattle.serve_core.specs.declared.event.Reply.{Reply}
use Rattle.serve_core.specs.declared.event.Reply.TheVariants as replies
use Rattle.serve_script.specs.SessionInside.{Streams, admitted_streams, first_streams, with_named}

-- the bytes of the names
abbrev pub names_of : {X : Type 0} → List (Bor (List ℕ) × X) → List (List ℕ)
names_of entries = map (λ entry. entry.0.now) entries

-- a test that some name passes is passed by its bytes
pub any_name : {X : Type 0} (test : List ℕ → Bool) (entries : List (Bor (List ℕ) × X))
    → list_any (λ name. test name.now) (keys_of entries) ≡ list_any test (names_of entries)
any_name test [] = refl
any_name test (entry ∷ more) = ap (λ found. test entry.0.now || found) (any_name test more)

-- and the first name that passes stands where its bytes do
first_name : {X : Type 0} (test : List ℕ → Bool) (entries : List (Bor (List ℕ) × X))
    → position_or_len (λ name. test name.now) (keys_of entries) ≡ position_or_len test (names_of entries)
first_name test [] = refl
first_name test (entry ∷ more) =
    ap (λ place. cond (not (test entry.0.now)) (1 + place) 0) (first_name test more)

place_or_end : {X : Type 0} (test : X → Bool) (xs : List X) → unwrap_or (position test xs) (length xs) ≡ position_or_len test xs
place_or_end {X} test xs = by (nat_lt place (length xs)) refl
  where
    place : ℕ
    place = position_or_len test xs

    answer : Bool → ℕ
    answer is_within = unwrap_or (cond is_within (Some place) None) (length xs)

    by : (is_within : Bool) → nat_lt place (length xs) ≡ is_within → unwrap_or (position test xs) (length xs) ≡ place
    by true e = ap answer e
    by false e = ap answer e ∙ omega (arith, ltb-false place (length xs) e, prefix_len-le-length (λ x. not (test x)) xs)

-- the number of a stream that was looked for by its name, or the number after the last one's
pub number_found : {X : Type 0} (name : List ℕ) (entries : List (Bor (List ℕ) × X)) (found : Option ℕ)
    → found ≡ position (λ key. bytes_eq name key.now) (keys_of entries)
    → unwrap_or found (length entries) ≡ position_or_len (bytes_eq name) (names_of entries)
number_found name entries found is =
    ap (λ place. unwrap_or place (length entries)) is
    ∙ ap (unwrap_or (position (λ key. bytes_eq name key.now) (keys_of entries))) (sym (length-map entries (λ entry. entry.0)))
    ∙ place_or_end (λ key. bytes_eq name key.now) (keys_of entries)
    ∙ first_name (bytes_eq name) entries

-- a name that isn't taken goes last
pub named_last : {X : Type 0} (name : Bor (List ℕ)) (value : X) (entries : List (Bor (List ℕ) × X))
    → list_any (bytes_eq name.now) (names_of entries) ≡ false
    → insert_entry (λ a b. bytes_eq a.now b.now) entries name value ≡ entries ++ (name, value) ∷ []
named_last name value [] free = refl
named_last {X} name value (entry ∷ more) free = by (bytes_eq name.now entry.0.now) free (named_last name value more)
  where
    later : List (Bor (List ℕ) × X)
    later = insert_entry (λ a b. bytes_eq a.now b.now) more name value

    by : (same : Bool) → (same || list_any (bytes_eq name.now) (names_of more)) ≡ false
        → (list_any (bytes_eq name.now) (names_of more) ≡ false → later ≡ more ++ (name, value) ∷ [])
        → cond same ((entry.0, value) ∷ more) (entry ∷ later) ≡ entry ∷ more ++ (name, value) ∷ []
    by true free last = absurd (true≢false free)
    by false free last = ap (λ rest. entry ∷ rest) (last free)

abbrev pub streams_of : List (Bor (List ℕ) × Geometry) → Streams
streams_of entries = record { names = names_of entries; geometries = map (λ entry. entry.1) entries }

pub same_streams : (a b : List (List ℕ)) (g h : List Geometry) → a ≡ b → g ≡ h
    → let one : Streams = record { names = a; geometries = g } in let other : Streams = record { names = b; geometries = h } in one ≡ other
same_streams a b g h e f = cc

-- a table with an entry more
pub with_one_more : (name : Bor (List ℕ)) (geometry : Geometry) (entries later : List (Bor (List ℕ) × Geometry))
    → later ≡ entries ++ (name, geometry) ∷ [] → streams_of later ≡ with_named name.now geometry (streams_of entries)
with_one_more name geometry entries later is =
    ap streams_of is
    ∙ same_streams _ _ _ _ (map_push (λ entry. entry.0.now) entries (name, geometry)) (map_push (λ entry. entry.1) entries (name, geometry))

-- its first entries
pub first_entries : (n : ℕ) (entries : List (Bor (List ℕ) × Geometry)) → streams_of (take n entries) ≡ first_streams n (streams_of entries)
first_entries n entries =
    same_streams _ _ _ _ (sym (take-map (λ entry. entry.0.now) n entries)) (sym (take-map (λ entry. entry.1) n entries))

-- where the machine has admitted none, the first ones are left
pub first_unless : (n : ℕ) (streams : Streams) (reply : Reply) → ((s : ℕ) → reply ≡ replies.Admitted s → ⊥)
    → first_streams n streams ≡ admitted_streams n (heard reply) streams
first_unless n streams (replies.Admitted s) other = absurd (other s refl)
first_unless n streams reply other = refl
