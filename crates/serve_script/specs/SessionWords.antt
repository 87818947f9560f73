-- The words of a session script's lines.
use Rattle.std.specs.Prelude.{ℕ, zero, suc, ◌%◌, ◌^◌, Bool, ◌&&◌, ◌||◌, ◌==◌, nat_le, nat_lt}
use Rattle.std.specs.Prelude.{if◌then◌else◌, List, [], ◌∷◌, length, Option, Some, None, option_and_then}
use Rattle.std.specs.Char.{is_ascii_hexdigit}
use Rattle.std.specs.List.{before_first, list_all}
use Rattle.std.specs.Option.{option_map_or}
use Rattle.y4m_header.specs.Text.{is_name, text_after}
use Rattle.serve_script.specs.ScriptCommand.{word_number}

-- what stands before a text's first space, or all of it
abbrev pub first_word : List ℕ → List ℕ
first_word text = before_first (λ byte. byte == 32) text

-- what stands behind a text's first space, if it has one
abbrev pub behind_word : List ℕ → Option (List ℕ)
behind_word text = text_after 32 text

-- a text cut at its first n spaces, or at all of them where it has fewer: the last part may hold spaces
abbrev pub cut_at_spaces : ℕ → List ℕ → List (List ℕ)
cut_at_spaces zero text = text ∷ []
cut_at_spaces (suc n) text = first_word text ∷ option_map_or (cut_at_spaces n) (behind_word text) []

-- one or more pairs of hexadecimal digits, of either case
abbrev pub is_hex : List ℕ → Bool
is_hex text = nat_le 1 (length text) && length text % 2 == 0 && list_all is_ascii_hexdigit text

-- the number of a worker fits 32 bits
abbrev pub worker_at : ℕ → Option ℕ
worker_at number = if nat_lt number (2 ^ 32) then Some number else None

-- the worker whose number a word writes
abbrev pub worker_of : List ℕ → Option ℕ
worker_of word = option_and_then worker_at (word_number word)

-- the name that a word is
abbrev pub name_of : List ℕ → Option (List ℕ)
name_of word = if is_name word then Some word else None
