-- The numbers that decimal digits write.
use Rattle.std.proofs.Common.{◌≡◌, ℕ, ◌+◌, ◌-◌, ◌*◌, ◌^◌, ◌<◌, ◌≤◌, true, List, [], ◌∷◌, length, take, get_or}
use Rattle.std.proofs.Common.{All, arith, rules}
use Rattle.std.proofs.Math.Nat.{pow-le-pow_right}
use Rattle.std.specs.Char.{IsAsciiDigit, is_ascii_digit}
use Rattle.std.specs.List.{list_all}
use Rattle.std.specs.Str.Parse.{digits_value}
use Rattle.std.proofs.lemmas.Int.Digits.{digits_value_more}
use Rattle.std.proofs.lemmas.List.Elements.{All-nil, All-cons}
use Rattle.std.proofs.lemmas.Str.{digit_value_digit}
use Rattle.std.proofs.lemmas.Str.Parse.{IsDigitsTest, IsNumeralModel, numerals_by_value, digits_value_short}

-- at most 18 digits leave room for one more in 64 bits
pub tens : (i : ℕ) → i ≤ 18 → 10 ^ i ≤ 10 ^ 18
tens i h = pow-le-pow_right {n = 10} (omega arith) h

abbrev pub AreDigits : List ℕ → Type 0
AreDigits text = list_all is_ascii_digit text ≡ true

digits_test : IsDigitsTest AreDigits
digits_test = search rules

-- std's words for a text of digits and for its value
pub numerals : IsNumeralModel AreDigits (digits_value 10)
numerals = numerals_by_value AreDigits digits_test

pub each_digit : (ds : List ℕ) → AreDigits ds → All IsAsciiDigit ds
each_digit [] digits = All-nil IsAsciiDigit
each_digit (d ∷ ds) digits =
    let parts = digits_test.parts d ds digits in
    All-cons IsAsciiDigit d ds parts.0 (each_digit ds parts.1)

pub digits_value-lt : (ds : List ℕ) (most : ℕ) → AreDigits ds → length ds ≤ most
    → digits_value 10 ds < 10 ^ most
digits_value-lt ds most digits few = digits_value_short numerals ds most digits few

-- one digit more
pub digits_value-take : (ds : List ℕ) (i : ℕ) → All IsAsciiDigit ds → i < length ds
    → digits_value 10 (take (i + 1) ds) ≡ 10 * digits_value 10 (take i ds) + (get_or ds i 0 - 48)
digits_value-take ds i digits h =
    let digit = digit_value_digit (get_or ds i 0) (digits i 0 h) in
    omega (arith, digits_value_more 10 ds i h, digit)
