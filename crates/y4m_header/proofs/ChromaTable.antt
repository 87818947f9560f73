-- A value of C names one form.
use Rattle.std.proofs.Common.{nat_eq, sym, ◌∙◌, ◌≡◌, ◌↔◌, ℕ, ◌<◌, inl, inr, List, [], ◌∷◌, length}
use Rattle.std.proofs.Common.{Option, Some, None, Contains, get_or, refl, ap, subst, arith, suc, zero, Bool}
use Rattle.std.proofs.Common.{true, false, cond, drop, slice_index_or, Bor, ◌+◌, ◌≤◌}
use Rattle.std.proofs.Props.{props}
use mathlib.Core.Sum.{⊎_set}
use Rattle.std.specs.Option.{option_eq}
use Rattle.std.specs.Cmp.Lexicographic.{same_text}
use lib.Pointwise.{pointwise}
use Rattle.std.proofs.lemmas.Bool.{cases_Bool}
use Rattle.y4m_header.specs.declared.chroma.Chroma.{Chroma}
use Rattle.y4m_header.specs.Chroma.{ChromaName, NamesChroma, chroma_table}

abbrev same_value : Option (List ℕ) → Option (List ℕ) → Bool
same_value v w = option_eq (pointwise nat_eq) v w

-- the form of the first name with this value
abbrev pub form_in : List ChromaName → Option (List ℕ) → Option Chroma
form_in [] v = None
form_in (name ∷ names) v = cond (same_value v name.value) (Some name.chroma) (form_in names v)

-- each name gives its own form
abbrev IsEach : List ChromaName → Type 0
IsEach [] = Unit {0}
IsEach (name ∷ names) = (form_in chroma_table name.value ≡ Some name.chroma) × IsEach names

at_each : (names : List ChromaName) (k : ℕ) (d : ChromaName) → k < length names → IsEach names
    → form_in chroma_table (get_or names k d).value ≡ Some (get_or names k d).chroma
at_each [] k d h each = absurd (omega arith)
at_each (name ∷ names) zero d h each = each.0
at_each (name ∷ names) (suc k) d h each = at_each names k d (omega arith) each.1

each_row : IsEach chroma_table
each_row = search

named_form : (v : Option (List ℕ)) (c : Chroma) → NamesChroma v c → form_in chroma_table v ≡ Some c
named_form v c h =
    let name : ChromaName = record { value = v; chroma = c } in
    let P : ChromaName → Type 0 = λ n. form_in chroma_table n.value ≡ Some n.chroma in
    subst P h.2 (at_each chroma_table h.0 name h.1 each_row)

pub names_one_form : (v : Option (List ℕ)) (c c' : Chroma) → NamesChroma v c → NamesChroma v c' → c ≡ c'
names_one_form v c c' h h' =
    let a = named_form v c h in
    let b = named_form v c' h' in
    cc

same_value_is : (v w : Option (List ℕ)) → same_value v w ≡ true → v ≡ w
same_value_is None None e = refl
same_value_is None (Some w) e = absurd (cc)
same_value_is (Some v) None e = absurd (cc)
same_value_is (Some v) (Some w) e = ap Some (same_text v w (sym e))

name_at : (a b : ChromaName) → a.value ≡ b.value → a.chroma ≡ b.chroma → a ≡ b
name_at a b p q = λ i. record { value = p i; chroma = q i }

found : (names : List ChromaName) (v : Option (List ℕ)) (c : Chroma) → form_in names v ≡ Some c
    → Contains names (record { value = v; chroma = c })
found [] v c e = absurd (cc)
found (name ∷ names) v c e = elim (cases_Bool (same_value v name.value)) [
  | inl same ↦
      let form : name.chroma ≡ c = (let s = rw same at e in cc) in
      let wanted : ChromaName = record { value = v; chroma = c } in
      (0, omega arith, name_at name wanted (sym (same_value_is v name.value same)) form)
  | inr other ↦
      let more = found names v c (rw other at e) in
      (suc more.0, omega (arith, more.1), more.2)
]

-- that a value names a form is a fact with one proof at most
abbrev pub GivesForm : Option (List ℕ) → Chroma → Type 0
GivesForm v c = form_in chroma_table v ≡ Some c

Chroma-set : IsSet Chroma
Chroma-set = hlevel (⊎_set, props)

pub gives_prop : (v : Option (List ℕ)) (c : Chroma) → IsProp (GivesForm v c)
gives_prop v c = hlevel (Chroma-set, props)

pub gives_from_names : (v : Option (List ℕ)) (c : Chroma) → NamesChroma v c → GivesForm v c
gives_from_names = named_form

pub names_from_gives : (v : Option (List ℕ)) (c : Chroma) → GivesForm v c → NamesChroma v c
names_from_gives v c e = found chroma_table v c e

-- the form that the table gives is the one that the value names
pub names_form : (v : Option (List ℕ)) (r : Option Chroma) → r ≡ form_in chroma_table v
    → (c : Chroma) → (r ≡ Some c) ↔ NamesChroma v c
names_form v r e c = (λ s. names_from_gives v c (sym e ∙ s), λ names. e ∙ gives_from_names v c names)

-- the form of the first of these texts that is the name
abbrev pub form_of_texts : List (Bor (List ℕ) × Chroma) → List ℕ → Option Chroma
form_of_texts [] name = None
form_of_texts (form ∷ forms) name = cond (pointwise nat_eq name form.0.now) (Some form.1) (form_of_texts forms name)

first_left : (forms : List (Bor (List ℕ) × Chroma)) (name : List ℕ) (k m : ℕ) (d : Bor (List ℕ) × Chroma) → m ≡ suc k → k < length forms
    → form_of_texts (drop k forms) name
    ≡ cond (pointwise nat_eq name (slice_index_or forms k d).0.now) (Some (slice_index_or forms k d).1) (form_of_texts (drop m forms) name)
first_left [] name k m d e h = absurd (omega arith)
first_left (form ∷ forms) name zero m d e h = rw e refl
first_left (form ∷ forms) name (suc k) m d e h = rw e (first_left forms name k (suc k) d refl (omega arith))

none_left : (forms : List (Bor (List ℕ) × Chroma)) (name : List ℕ) (k : ℕ) → length forms ≤ k → form_of_texts (drop k forms) name ≡ None
none_left [] name zero h = refl
none_left [] name (suc k) h = refl
none_left (form ∷ forms) name zero h = absurd (omega arith)
none_left (form ∷ forms) name (suc k) h = none_left forms name k (omega arith)

-- a search through the texts, at its k-th
pub other_text : (forms : List (Bor (List ℕ) × Chroma)) (name text : List ℕ) (k : ℕ) (d : Bor (List ℕ) × Chroma)
    (same : Bool) (form : Option Chroma)
    → form ≡ form_of_texts (drop k forms) name → k < length forms → text ≡ (slice_index_or forms k d).0.now
    → same ≡ pointwise nat_eq name text
    → same ≡ false → form ≡ form_of_texts (drop (k + 1) forms) name
other_text forms name text k d same form is h e s differs =
    let other : pointwise nat_eq name (slice_index_or forms k d).0.now ≡ false = ap (pointwise nat_eq name) (sym e) ∙ sym s ∙ differs in
    is ∙ first_left forms name k (k + 1) d (omega arith) h ∙ rw other refl

pub same_text_found : (forms : List (Bor (List ℕ) × Chroma)) (name text : List ℕ) (k : ℕ) (d : Bor (List ℕ) × Chroma)
    (same : Bool) (form : Option Chroma)
    → form ≡ form_of_texts (drop k forms) name → k < length forms → text ≡ (slice_index_or forms k d).0.now
    → same ≡ pointwise nat_eq name text
    → same ≡ true → Some (slice_index_or forms k d).1 ≡ form
same_text_found forms name text k d same form is h e s agrees =
    let it : pointwise nat_eq name (slice_index_or forms k d).0.now ≡ true = ap (pointwise nat_eq name) (sym e) ∙ sym s ∙ agrees in
    sym (is ∙ first_left forms name k (k + 1) d (omega arith) h ∙ rw it refl)

pub no_text_found : (forms : List (Bor (List ℕ) × Chroma)) (name : List ℕ) (k : ℕ) (form : Option Chroma)
    → form ≡ form_of_texts (drop k forms) name → length forms ≤ k → None ≡ form
no_text_found forms name k form is h = sym (is ∙ none_left forms name k h)
