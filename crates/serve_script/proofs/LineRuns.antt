-- The run of a script's lines, one after another, and the report behind them.
use Rattle.std.proofs.Common.{◌≡◌, ℕ, ◌+◌, ◌≤◌, Bool, true, false, List, [], ◌∷◌, ◌++◌, length, take, Option}
use Rattle.std.proofs.Common.{None, Some, IsSomeAnd, slice_get, refl, sym, ap, subst, ◌∙◌, arith}
use Rattle.std.proofs.Common.{length-append, MatchBool}
use Rattle.std.proofs.Math.Seq.{take-append_seam}
use Rattle.std.proofs.lemmas.List.{append_assoc, append-nil, take_all}
use Rattle.std.proofs.lemmas.Grind.{flat_map-append}
use Rattle.serve_script.specs.ScriptFault.{Fault}
use Rattle.serve_script.specs.ScriptReport.{CommandGives, Gives, IsOfLines, LeadTo, line_text, report_of, text_of_lines}
use Rattle.serve_script.specs.ScriptState.{Silent, Prints, Faults, Fresh, MayFault, ScriptState}
use Rattle.serve_script.specs.ScriptText.{is_silent, script_lines}

-- one line more
pub one_more : (lines : List (List ℕ)) (line : List ℕ) → length (lines ++ line ∷ []) ≡ length lines + 1
one_more lines line = omega (arith, length-append lines (line ∷ []))

-- the first of the lines that are left joins those before it
pub split_next : (all lines : List (List ℕ)) (line : List ℕ) (rest more : List (List ℕ)) → all ≡ lines ++ rest → rest ≡ line ∷ more
    → all ≡ lines ++ line ∷ [] ++ more
split_next all lines line rest more split next = split ∙ ap (λ (left : List (List ℕ)). lines ++ left) next
    ∙ sym (append_assoc lines (line ∷ []) more)

-- nothing is left
pub no_lines : (text : List ℕ) → length text ≤ 0 → script_lines text ≡ []
no_lines [] h = refl
no_lines (first ∷ more) h = absurd (omega arith)

-- one more answer is printed
pub printed_next : (before : List ℕ) (answers : List (List ℕ)) (answer : List ℕ)
    → before ++ text_of_lines answers ++ line_text answer ≡ before ++ text_of_lines (answers ++ answer ∷ [])
printed_next before answers answer =
    let apart = flat_map-append line_text answers (answer ∷ []) in
    let alone = append-nil (line_text answer) in
    append_assoc before (text_of_lines answers) (line_text answer)
    ∙ ap (λ (text : List ℕ). before ++ text) (sym (apart ∙ ap (λ (text : List ℕ). text_of_lines answers ++ text) alone))

-- lines that lead on from where others led
LeadTo-append : (lines more : List (List ℕ)) (answers later : List (List ℕ)) (state middle end : ScriptState)
    → LeadTo state lines answers middle → LeadTo middle more later end → LeadTo state (lines ++ more) (answers ++ later) end
LeadTo-append [] more answers later state middle end first second =
    subst (λ (all : List (List ℕ)). LeadTo state more (all ++ later) end) (sym first.0)
    (subst (λ (from : ScriptState). LeadTo from more later end) (sym first.1) second)
LeadTo-append (line ∷ lines) more answers later state middle end (Silent, gives, printed) second =
    (Silent, gives, LeadTo-append lines more answers later state middle end printed second)
LeadTo-append (line ∷ lines) more answers later state middle end (Prints answer next, gives, (rest, split, printed)) second = (
  Prints answer next,
  gives,
  (
    rest ++ later,
    ap (λ (all : List (List ℕ)). all ++ later) split,
    LeadTo-append lines more rest later next middle end printed second,
  ),
)
LeadTo-append (line ∷ lines) more answers later state middle end (Faults fault, gives, printed) second = absurd printed

-- one more line does nothing
pub LeadTo-silent : (lines answers : List (List ℕ)) (line : List ℕ) (end : ScriptState)
    → LeadTo Fresh lines answers end → is_silent line ≡ true → LeadTo Fresh (lines ++ line ∷ []) answers end
LeadTo-silent lines answers line end ran silent =
    let one : LeadTo end (line ∷ []) [] end =
    (Silent, subst (λ (is : Bool). MatchBool is (Silent ≡ Silent) (CommandGives end line Silent)) (sym silent) refl, (refl, refl)) in
    subst (λ (all : List (List ℕ)). LeadTo Fresh (lines ++ line ∷ []) all end) (append-nil answers)
    (LeadTo-append lines (line ∷ []) answers [] Fresh end end ran one)

-- one more line is answered
pub LeadTo-prints : (lines answers : List (List ℕ)) (line answer : List ℕ) (middle end : ScriptState)
    → LeadTo Fresh lines answers middle → is_silent line ≡ false → CommandGives middle line (Prints answer end)
    → LeadTo Fresh (lines ++ line ∷ []) (answers ++ answer ∷ []) end
LeadTo-prints lines answers line answer middle end ran command gives =
    let given = Prints answer end in
    let one : LeadTo middle (line ∷ []) (answer ∷ []) end = (
      given,
      subst (λ (is : Bool). MatchBool is (given ≡ Silent) (CommandGives middle line given)) (sym command) gives,
      ([], refl, (refl, refl)),
    ) in
    LeadTo-append lines (line ∷ []) answers (answer ∷ []) Fresh middle end ran one

-- all lines ran
pub all_lines : (all lines answers : List (List ℕ)) (end : ScriptState) → all ≡ lines → LeadTo Fresh lines answers end
    → IsOfLines all (report_of answers None)
all_lines all lines answers end same ran = record {
  count = length all;
  state = end;
  ran = subst (λ (front : List (List ℕ)). LeadTo Fresh front answers end) (sym (take_all (length all) all (omega arith) ∙ same)) ran;
  stop = refl;
}

at_seam : (lines : List (List ℕ)) (line : List ℕ) (more : List (List ℕ)) → slice_get (lines ++ line ∷ more) (length lines) ≡ Some line
at_seam [] line more = refl
at_seam (first ∷ lines) line more = at_seam lines line more

-- the lines before one with a fault ran
pub lines_before : (all lines answers : List (List ℕ)) (line : List ℕ) (more : List (List ℕ)) (end : ScriptState)
    (number : ℕ) (fault : Fault)
    → all ≡ lines ++ line ∷ more → number ≡ length lines + 1 → LeadTo Fresh lines answers end
    → is_silent line ≡ false → MayFault (CommandGives end line) fault
    → IsOfLines all (report_of answers (Some (record { line = number; fault = fault })))
lines_before all lines answers line more end number fault split at ran command may = record {
  count = length lines;
  state = end;
  ran =
      subst (λ (front : List (List ℕ)). LeadTo Fresh front answers end)
      (sym (ap (take (length lines)) split ∙ take-append_seam lines (line ∷ more))) ran;
  stop = (
    at,
    subst (λ (found : Option (List ℕ)). IsSomeAnd found (λ first. MayFault (Gives end first) fault))
        (sym (ap (λ (lines_all : List (List ℕ)). slice_get lines_all (length lines)) split ∙ at_seam lines line more))
        (subst (λ (is : Bool). MayFault (λ given. MatchBool is (given ≡ Silent) (CommandGives end line given)) fault) (sym command) may),
  );
}
