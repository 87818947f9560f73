-- A line as an answer repeats it.
use Rattle.std.specs.Prelude.{ℕ, ◌/◌, ◌%◌, ◌&&◌, ◌==◌, Bool, nat_le, not, if◌then◌else◌}
use Rattle.std.specs.Prelude.{List, [], ◌∷◌, ◌++◌, codes, take, true}
use Rattle.std.specs.Fmt.{digit_glyph}
use Rattle.std.specs.List.{flat_map}
use Rattle.serve_report.specs.declared.control.quoted.TheConstants.{MOST_TOLD}

-- a byte that is repeated as it is: printable ASCII but for `'` (39) and `\` (92)
abbrev pub is_plain : ℕ → Bool
is_plain byte = nat_le 32 byte && nat_le byte 126 && not (byte == 39) && not (byte == 92)

-- a byte as it is repeated: as it is, or as `\xHH`, with two hexadecimal digits
abbrev pub byte_told : ℕ → List ℕ
byte_told byte =
    if is_plain byte then byte ∷ []
    else 92 ∷ 120 ∷ digit_glyph true (byte / 16) ∷ digit_glyph true (byte % 16) ∷ []

-- the first bytes of a line, between quotation marks
abbrev pub quoted_text : List ℕ → List ℕ
quoted_text line = codes "'" ++ flat_map byte_told (take MOST_TOLD line) ++ codes "'"
