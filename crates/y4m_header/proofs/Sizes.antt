-- The sizes that W and H state, and the decimals of a size.
use Rattle.std.proofs.Common.{◌≡◌, ℕ, ◌^◌, ◌<◌, ◌≤◌, true, List, length, All, decimal, arith}
use Rattle.std.specs.Char.{IsAsciiDigit}
use Rattle.std.specs.Str.Parse.{digits_value}
use Rattle.std.proofs.lemmas.Bool.Decides.{nat_tests}
use Rattle.std.proofs.lemmas.Fmt.{digits_decimal, decimal_is_IsNumeral, digits_value-decimal}
use Rattle.std.proofs.lemmas.Fmt.{length-decimal-le}
use Rattle.y4m_header.specs.declared.limits.TheConstants.{LONGEST_SIDE, MOST_SIZE_DIGITS}
use Rattle.y4m_header.specs.Text.{is_number}
use Rattle.y4m_header.specs.HeaderLine.{IsSize}
use Rattle.y4m_header.proofs.Numbers.{AreDigits, numerals, each_digit, digits_value-lt}

-- what the test for a number says
record IsNumber (most : ℕ) (text : List ℕ) : Type 0 where
  pub some : 1 ≤ length text
  pub few : length text ≤ most
  pub digits : AreDigits text

number_parts : (most : ℕ) (text : List ℕ) → is_number most text ≡ true → IsNumber most text
number_parts most text is = record {
  some = grind (arith, nat_tests);
  few = grind (arith, nat_tests);
  digits = grind (arith, nat_tests);
}

number_from : (most : ℕ) (text : List ℕ) → 1 ≤ length text → length text ≤ most → AreDigits text
    → is_number most text ≡ true
number_from most text some few digits = grind (arith, nat_tests)

pub size_digits : {value : List ℕ} → IsSize value → All IsAsciiDigit value
size_digits {value} size = each_digit value (number_parts MOST_SIZE_DIGITS value size.digits).digits

pub size_small : {value : List ℕ} → IsSize value → digits_value 10 value < 10 ^ MOST_SIZE_DIGITS
size_small {value} size =
    let number = number_parts MOST_SIZE_DIGITS value size.digits in
    digits_value-lt value MOST_SIZE_DIGITS number.digits number.few

pub digits_value_decimal : (n : ℕ) → n ≤ LONGEST_SIDE → digits_value 10 (decimal n) ≡ n
digits_value_decimal n few = digits_value-decimal numerals n (omega arith)

pub decimal_is_size : (n : ℕ) → 1 ≤ n → n ≤ LONGEST_SIDE → IsSize (decimal n)
decimal_is_size n some few =
    let short = length-decimal-le MOST_SIZE_DIGITS n (omega arith) (omega arith) (omega arith) in
    let digits = digits_decimal numerals n (omega arith) in
    let numeral = decimal_is_IsNumeral n (omega arith) in
    record {
      digits = number_from MOST_SIZE_DIGITS (decimal n) numeral.0.0 short digits;
      positive = omega (arith, digits_value_decimal n few);
    }

pub decimal_shorter : (n m : ℕ) (value : List ℕ) → n ≤ m → m ≤ LONGEST_SIDE → IsSize value
    → digits_value 10 value ≡ m → length (decimal n) ≤ length value
decimal_shorter n m value less few size is =
    let number = number_parts MOST_SIZE_DIGITS value size.digits in
    let bound = digits_value-lt value (length value) number.digits (omega arith) in
    length-decimal-le (length value) n (omega (arith, number.some)) (omega (arith, bound, is)) (omega arith)
