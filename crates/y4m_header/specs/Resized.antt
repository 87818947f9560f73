-- A header line with another size.
use Rattle.std.specs.Prelude.{ℕ, List, [], ◌∷◌, map, if◌then◌else◌, ◌==◌, decimal}
use Rattle.std.specs.List.{join_with_byte}
use Rattle.y4m_header.specs.Line.{space, pieces}
use Rattle.y4m_header.specs.HeaderLine.{width_letter, height_letter}

-- a tag W or H with its new value, in decimal; any other piece stays
abbrev pub resized_piece : ℕ → ℕ → List ℕ → List ℕ
resized_piece w h [] = []
resized_piece w h (first ∷ value) =
    if first == width_letter then width_letter ∷ decimal w
    else (if first == height_letter then height_letter ∷ decimal h else first ∷ value)

-- the first piece is the word of the line, and no tag
abbrev pub resized_pieces : ℕ → ℕ → List (List ℕ) → List (List ℕ)
resized_pieces w h [] = []
resized_pieces w h (word ∷ tags) = word ∷ map (resized_piece w h) tags

-- the values of W and H are replaced in place; all else stays byte for byte
abbrev pub resized_line : List ℕ → ℕ → ℕ → List ℕ
resized_line line w h = join_with_byte space (resized_pieces w h (pieces line))
