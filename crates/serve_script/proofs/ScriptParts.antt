-- Lines and words of a script, cut off one at a time.
use Rattle.std.proofs.Common.{◌≡◌, ℕ, ◌<◌, List, [], ◌∷◌, length, None, refl, ap, ◌∙◌, eqb, arith}
use Rattle.std.proofs.lemmas.List.Splits.{length-slice_split}
use Rattle.y4m_header.specs.Text.{parts}
use Rattle.serve_script.specs.ScriptText.{script_lines, without_empty_end, words}
use Rattle.serve_script.specs.ScriptCommand.{command_of, command_of_words}

-- a text has at least one part
pub some_parts : (separator : ℕ) (text : List ℕ) → 0 < length (parts separator text)
some_parts separator text = omega (arith, length-slice_split (λ b. eqb b separator) text)

more_lines : (line : List ℕ) (more : List (List ℕ)) → 0 < length more → without_empty_end (line ∷ more) ≡ line ∷ without_empty_end more
more_lines line [] h = absurd (omega arith)
more_lines [] (next ∷ more) h = refl
more_lines (first ∷ line) (next ∷ more) h = refl

-- what follows a line's end is the rest of the lines
pub script_lines-more : (text line rest : List ℕ) → parts 10 text ≡ line ∷ parts 10 rest → script_lines text ≡ line ∷ script_lines rest
script_lines-more text line rest e = ap without_empty_end e ∙ more_lines line (parts 10 rest) (some_parts 10 rest)

four_words : (name q t : List ℕ) (more : List (List ℕ)) → 0 < length more → command_of_words (name ∷ q ∷ t ∷ more) ≡ None
four_words name q t [] h = absurd (omega arith)
four_words name q t (word ∷ more) h = refl

-- no command has four words
pub command_of-more : (line name first second a b c : List ℕ) → words line ≡ name ∷ words a → words a ≡ first ∷ words b
    → words b ≡ second ∷ words c
    → command_of line ≡ None
command_of-more line name first second a b c one two three =
    let all : words line ≡ name ∷ first ∷ second ∷ words c = one ∙ ap (λ more. name ∷ more) (two ∙ ap (λ more. first ∷ more) three) in
    ap command_of_words all ∙ four_words name first second (words c) (some_parts 32 c)
