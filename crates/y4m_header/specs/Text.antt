-- Texts of bytes: their parts round a separator, the decimal numbers that they write, and names.
use Rattle.std.specs.Prelude.{ℕ, ◌+◌, Bool, List, [], length, drop, Option, Some, None, position}
use Rattle.std.specs.Prelude.{if◌then◌else◌, ◌==◌, ◌&&◌, ◌||◌, nat_le}
use Rattle.std.specs.Char.{is_ascii_alphanumeric, is_ascii_digit}
use Rattle.std.specs.List.{slice_split, list_all}
use Rattle.std.specs.Option.{option_map}
use Rattle.std.specs.Str.Parse.{digits_value}
use Rattle.y4m_header.specs.declared.text.TheConstants.{LONGEST_NAME}

-- the parts of a text before, between and after its bytes of this value
abbrev pub parts : ℕ → List ℕ → List (List ℕ)
parts separator text = slice_split (λ byte. byte == separator) text

-- the parts of what is left after a separator, if anything is
abbrev pub parts_left : ℕ → Option (List ℕ) → List (List ℕ)
parts_left separator None = []
parts_left separator (Some rest) = parts separator rest

-- what stands after the first separator, if there is one
abbrev pub text_after : ℕ → List ℕ → Option (List ℕ)
text_after separator text =
    option_map (λ place. drop (place + 1) text) (position (λ byte. byte == separator) text)

-- 1 to `most` decimal digits
abbrev pub is_number : ℕ → List ℕ → Bool
is_number most text = nat_le 1 (length text) && nat_le (length text) most && list_all is_ascii_digit text

-- the number that 1 to `most` decimal digits write; any other text writes none
abbrev pub number_of : ℕ → List ℕ → Option ℕ
number_of most text = if is_number most text then Some (digits_value 10 text) else None

abbrev pub is_name_byte : ℕ → Bool
is_name_byte byte = is_ascii_alphanumeric byte || byte == 95 || byte == 45

-- letters, digits, `_` or `-`: one at least, and as many as a name may have
abbrev pub is_name : List ℕ → Bool
is_name text = nat_le 1 (length text) && nat_le (length text) LONGEST_NAME && list_all is_name_byte text
