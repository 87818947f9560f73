-- The lines of a control.
use Rattle.std.proofs.Common.{◌≡◌, ℕ, Bool, List, Some, None, ap, cond, false, refl, true, ◌∙◌}
use Rattle.std.proofs.lemmas.Str.{IsUtf8-from_is_utf8, is_utf8-from_IsUtf8}
use Rattle.std.specs.Str.{IsUtf8, is_utf8}
use Rattle.serve_script.specs.ScriptText.{is_silent}
use Rattle.serve_report.specs.Control.{Nothing, line_asks, text_asks}

module _ (is_input_taken : Bool) (line : List ℕ) (loud : is_silent line ≡ false) where
  by_text : (text : Bool) → is_utf8 line ≡ text → line_asks is_input_taken line ≡ cond text (text_asks is_input_taken line) None
  by_text text is =
      ap (λ silent. cond silent (Some Nothing) (cond (is_utf8 line) (text_asks is_input_taken line) None)) loud
      ∙ ap (λ text. cond text (text_asks is_input_taken line) None) is

  -- bytes that are no text ask for nothing
  pub no_text : ¬ IsUtf8 line → line_asks is_input_taken line ≡ None
  no_text bad = by_text false (go (is_utf8 line) refl)
    where
      go : (text : Bool) → is_utf8 line ≡ text → is_utf8 line ≡ false
      go true is = absurd (bad (IsUtf8-from_is_utf8 line is))
      go false is = is

  -- a text asks for what its line does
  pub of_text : IsUtf8 line → line_asks is_input_taken line ≡ text_asks is_input_taken line
  of_text good = by_text true (is_utf8-from_IsUtf8 line good)
