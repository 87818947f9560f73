-- A line is refused for one reason.
use Rattle.std.proofs.Common.{◌≡◌, ℕ, ◌<◌, ◌⊎◌, inl, inr, List, [], ◌∷◌, All, Any, slice_get}
use Rattle.std.proofs.Common.{refl, sym, ap, ◌∙◌, subst, arith, suc, zero}
use Rattle.std.specs.Str.Parse.{digits_value}
use Rattle.std.proofs.lemmas.Bool.{cases_eq}
use Rattle.y4m_header.specs.declared.chroma.Chroma.{Chroma}
use Rattle.y4m_header.specs.declared.error.HeaderError.{HeaderError}
use Rattle.y4m_header.specs.declared.error.HeaderError.TheVariants.{NotY4m, BadNumber, RepeatedTag}
use Rattle.y4m_header.specs.declared.error.HeaderError.TheVariants.{MissingSize, UnknownChroma, NotDivisible}
use Rattle.y4m_header.specs.declared.error.HeaderError.TheVariants.{TooLarge, NoMemory, NotFrame}
use Rattle.y4m_header.specs.Chroma.{NamesChroma}
use Rattle.y4m_header.specs.HeaderLine.{IsY4mLine, IsSize, StatesSize, StatesFormat, IsDivided}
use Rattle.y4m_header.specs.HeaderLine.{IsWithinLimits, IsHeaderLine, widths, heights, chromas}
use Rattle.y4m_header.specs.Refusal.{IsRefusedAs, HasGoodSizes, HasBadSize, HasNoRepeat, HasRepeat}
use Rattle.y4m_header.specs.Refusal.{HasSizes, LacksSize, IsTooLarge}
use Rattle.y4m_header.proofs.TagLists.{all_good, length_one}
use Rattle.y4m_header.proofs.ChromaTable.{names_one_form}

-- what no bad value leaves
pub no_bad : (values : List (List ℕ)) → All IsSize values → ¬ Any (λ value. ¬ IsSize value) values
no_bad values good bad = bad.4 (subst IsSize bad.3 (good bad.0 bad.1 bad.2))

states_one : (given : List (List ℕ)) (m n : ℕ) → StatesSize given m → StatesSize given n → m ≡ n
states_one given m n a b =
    let first : given ≡ a.0 ∷ [] = a.1 in
    let second : given ≡ b.0 ∷ [] = b.1 in
    let same : a.0 ≡ b.0 = cc in
    let states : digits_value 10 a.0 ≡ m = a.3 in
    let states_too : digits_value 10 b.0 ≡ n = b.3 in
    cc

either : (k n : ℕ) → k < suc n → (k ≡ n) ⊎ (k < n)
either k n h = elim (cases_eq k n) [ inl same ↦ inl same | inr other ↦ inr (omega arith) ]

same_number : (m n : ℕ) → ¬ (m < n) → ¬ (n < m) → m ≡ n
same_number m n a b = omega arith

-- two formats are one
pub record SameFormat (w h : ℕ) (chroma : Chroma) (w' h' : ℕ) (chroma' : Chroma) : Type 0 where
  pub width : w ≡ w'
  pub height : h ≡ h'
  pub form : chroma ≡ chroma'

one_stated_format : (line : List ℕ) (w h : ℕ) (chroma : Chroma) (w' h' : ℕ) (chroma' : Chroma)
    → StatesFormat line w h chroma → StatesFormat line w' h' chroma' → SameFormat w h chroma w' h' chroma'
one_stated_format line w h chroma w' h' chroma' a b = record {
  width = states_one (widths line) w w' a.width b.width;
  height = states_one (heights line) h h' a.height b.height;
  form = names_one_form (slice_get (chromas line) 0) chroma chroma' a.form.named b.form.named;
}

-- the line states a format that is whole
abbrev StatesWhole : List ℕ → Type 0
StatesWhole line = (w h : ℕ) × (chroma : Chroma) × StatesFormat line w h chroma × IsDivided w h chroma

abbrev HasHeader : List ℕ → Type 0
HasHeader line = (w h : ℕ) × (chroma : Chroma) × IsHeaderLine line w h chroma

-- the test with this number, counted from 0
abbrev PassesAt : ℕ → List ℕ → Type 0
PassesAt zero line = IsY4mLine line
PassesAt (suc zero) line = HasGoodSizes line
PassesAt (suc (suc zero)) line = HasNoRepeat line
PassesAt (suc (suc (suc zero))) line = HasSizes line
PassesAt (suc (suc (suc (suc zero)))) line =
    (chroma : Chroma) × NamesChroma (slice_get (chromas line) 0) chroma
PassesAt (suc (suc (suc (suc (suc zero))))) line = StatesWhole line
PassesAt (suc (suc (suc (suc (suc (suc zero)))))) line = HasHeader line
PassesAt (suc (suc (suc (suc (suc (suc (suc n))))))) line = ⊥

-- the first n tests
abbrev Passes : ℕ → List ℕ → Type 0
Passes zero line = Unit {0}
Passes (suc n) line = Passes n line × PassesAt n line

passes_at : (line : List ℕ) (n k : ℕ) → k < n → Passes n line → PassesAt k line
passes_at line zero k h passes = absurd (omega arith)
passes_at line (suc n) k h passes = elim (either k n (omega arith)) [
  | inl last ↦ subst (λ (m : ℕ). PassesAt m line) (sym last) passes.1
  | inr before ↦ passes_at line n k before passes.0
]

-- the test that a refusal fails
abbrev test_of : HeaderError → ℕ
test_of NotY4m = 0
test_of BadNumber = 1
test_of RepeatedTag = 2
test_of MissingSize = 3
test_of UnknownChroma = 4
test_of NotDivisible = 5
test_of TooLarge = 6
test_of NoMemory = 7
test_of NotFrame = 8

abbrev refusal_at : ℕ → HeaderError
refusal_at zero = NotY4m
refusal_at (suc zero) = BadNumber
refusal_at (suc (suc zero)) = RepeatedTag
refusal_at (suc (suc (suc zero))) = MissingSize
refusal_at (suc (suc (suc (suc zero)))) = UnknownChroma
refusal_at (suc (suc (suc (suc (suc zero))))) = NotDivisible
refusal_at (suc (suc (suc (suc (suc (suc zero)))))) = TooLarge
refusal_at (suc (suc (suc (suc (suc (suc (suc zero))))))) = NoMemory
refusal_at (suc (suc (suc (suc (suc (suc (suc (suc n)))))))) = NotFrame

refusal_of_test : (e : HeaderError) → refusal_at (test_of e) ≡ e
refusal_of_test NotY4m = refl
refusal_of_test BadNumber = refl
refusal_of_test RepeatedTag = refl
refusal_of_test MissingSize = refl
refusal_of_test UnknownChroma = refl
refusal_of_test NotDivisible = refl
refusal_of_test TooLarge = refl
refusal_of_test NoMemory = refl
refusal_of_test NotFrame = refl

pub good_sizes : (line : List ℕ) (w h : ℕ) → StatesSize (widths line) w → StatesSize (heights line) h
    → HasGoodSizes line
good_sizes line w h width height = record {
  widths_good = all_good (widths line) w width;
  heights_good = all_good (heights line) h height;
}

pub has_sizes : (line : List ℕ) (w h : ℕ) → StatesSize (widths line) w → StatesSize (heights line) h
    → HasSizes line
has_sizes line w h width height = record {
  some_width = omega (arith, length_one (widths line) w width);
  some_height = omega (arith, length_one (heights line) h height);
}

no_repeat : (line : List ℕ) (w h : ℕ) (chroma : Chroma) → StatesFormat line w h chroma → HasNoRepeat line
no_repeat line w h chroma s = record {
  one_width = omega (arith, length_one (widths line) w s.width);
  one_height = omega (arith, length_one (heights line) h s.height);
  one_chroma = s.form.one;
}

format_passes : (line : List ℕ) (w h : ℕ) (chroma : Chroma) → StatesFormat line w h chroma → Passes 5 line
format_passes line w h chroma s =
    let good = good_sizes line w h s.width s.height in
    let some = has_sizes line w h s.width s.height in
    (((((tt, s.is_y4m), good), no_repeat line w h chroma s), some), (chroma, s.form.named))

-- a refused line passes the tests before
passes_before : (line : List ℕ) (e : HeaderError) → IsRefusedAs e line → Passes (test_of e) line
passes_before line NotY4m r = tt
passes_before line BadNumber r = (tt, r.0)
passes_before line RepeatedTag r = ((tt, r.0), r.1)
passes_before line MissingSize r = (((tt, r.0), r.1), r.2)
passes_before line UnknownChroma r = ((((tt, r.0), r.1), r.2), r.3)
passes_before line NotDivisible r = format_passes line r.0 r.1 r.2 r.3
passes_before line TooLarge r = (format_passes line r.0 r.1 r.2 r.3, (r.0, r.1, r.2, r.3, r.4))
passes_before line NoMemory r =
    let s = r.3.stated in
    ((format_passes line r.0 r.1 r.2 s, (r.0, r.1, r.2, s, r.3.divided)), r)
passes_before line NotFrame r = absurd r

undivided : (line : List ℕ) (w h : ℕ) (chroma : Chroma) → StatesFormat line w h chroma
    → ¬ IsDivided w h chroma → ¬ StatesWhole line
undivided line w h chroma s none whole =
    let same = one_stated_format line w h chroma whole.0 whole.1 whole.2 s whole.3 in
    none (rw (same.width, same.height, same.form) whole.4)

too_large : (w h : ℕ) (chroma : Chroma) → IsTooLarge w h chroma → ¬ IsWithinLimits w h chroma
too_large w h chroma (inl wide) limits = absurd (omega (arith, limits.width))
too_large w h chroma (inr (inl high)) limits = absurd (omega (arith, limits.height))
too_large w h chroma (inr (inr much)) limits = absurd (omega (arith, limits.bytes))

no_header : (line : List ℕ) (w h : ℕ) (chroma : Chroma) → StatesFormat line w h chroma
    → IsTooLarge w h chroma → ¬ HasHeader line
no_header line w h chroma s large header =
    let same = one_stated_format line w h chroma header.0 header.1 header.2 s header.3.stated in
    too_large w h chroma large (rw (same.width, same.height, same.form) header.3.limits)

bad_sizes : (line : List ℕ) → HasBadSize line → ¬ HasGoodSizes line
bad_sizes line (inl bad) good = no_bad (widths line) good.widths_good bad
bad_sizes line (inr bad) good = no_bad (heights line) good.heights_good bad

repeats : (line : List ℕ) → HasRepeat line → ¬ HasNoRepeat line
repeats line (inl two) once = absurd (omega (arith, once.one_width))
repeats line (inr (inl two)) once = absurd (omega (arith, once.one_height))
repeats line (inr (inr two)) once = absurd (omega (arith, once.one_chroma))

lacks : (line : List ℕ) → LacksSize line → ¬ HasSizes line
lacks line (inl none) some = absurd (omega (arith, some.some_width))
lacks line (inr none) some = absurd (omega (arith, some.some_height))

-- and fails its own
fails_own : (line : List ℕ) (e : HeaderError) → IsRefusedAs e line → ¬ PassesAt (test_of e) line
fails_own line NotY4m r = r
fails_own line BadNumber r = λ good. bad_sizes line r.1 good
fails_own line RepeatedTag r = λ once. repeats line r.2 once
fails_own line MissingSize r = λ some. lacks line r.3 some
fails_own line UnknownChroma r = λ named. r.4 named.0 named.1
fails_own line NotDivisible r = undivided line r.0 r.1 r.2 r.3 r.4
fails_own line TooLarge r = no_header line r.0 r.1 r.2 r.3 r.5
fails_own line NoMemory r = λ none. none
fails_own line NotFrame r = absurd r

-- a refusal does not stand behind another
not_behind : (line : List ℕ) (e e' : HeaderError) → IsRefusedAs e line → IsRefusedAs e' line
    → ¬ (test_of e < test_of e')
not_behind line e e' r r' h =
    fails_own line e r (passes_at line (test_of e') (test_of e) h (passes_before line e' r'))

pub one_refusal : (line : List ℕ) (e e' : HeaderError) → IsRefusedAs e line → IsRefusedAs e' line → e ≡ e'
one_refusal line e e' r r' =
    let before = not_behind line e e' r r' in
    let behind = not_behind line e' e r' r in
    let same = same_number (test_of e) (test_of e') before behind in
    sym (refusal_of_test e) ∙ ap refusal_at same ∙ refusal_of_test e'

-- a header line is refused for want of memory alone
pub header_refusal : (line : List ℕ) (w h : ℕ) (chroma : Chroma) (e : HeaderError)
    → IsHeaderLine line w h chroma → IsRefusedAs e line → e ≡ NoMemory
header_refusal line w h chroma e header r = one_refusal line e NoMemory r (w, h, chroma, header)

pub one_format : (line : List ℕ) (w h : ℕ) (chroma : Chroma) (w' h' : ℕ) (chroma' : Chroma)
    → IsHeaderLine line w h chroma → IsHeaderLine line w' h' chroma' → SameFormat w h chroma w' h' chroma'
one_format line w h chroma w' h' chroma' a b =
    one_stated_format line w h chroma w' h' chroma' a.stated b.stated
