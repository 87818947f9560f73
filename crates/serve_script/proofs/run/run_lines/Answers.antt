use Rattle.std.proofs.Common.{◌≡◌, ◌+◌, [], ◌∷◌, ◌++◌, length, false, true, rules, arith, refl, sym, ap, ◌∙◌}
use Rattle.std.proofs.lemmas.List.{append-nil}
use Rattle.serve_script.specs.ScriptFault.{fault_told}
use Rattle.serve_script.specs.ScriptReport.{line_text}
use Rattle.serve_script.specs.ScriptState.{Fresh}
use Rattle.serve_script.specs.ScriptText.{is_silent, script_lines}
use Rattle.serve_script.proofs.LineRuns.{LeadTo-prints, LeadTo-silent, all_lines, lines_before, no_lines}
use Rattle.serve_script.proofs.LineRuns.{one_more, printed_next, split_next}
use Rattle.serve_script.proofs.run.run_lines.Goals as goal

pub loop-rest-init : goal.loop-rest-init
loop-rest-init c = record {
  lines = [];
  answers = [];
  led = Fresh;
  split = refl;
  at = refl;
  ran = (refl, refl);
  stands = refl;
  printed = sym (append-nil c.args.printed.now.items);
  count = omega arith;
}

pub returns-in-Err : goal.returns-in-Err
returns-in-Err c =
    let run = c.loop-rest.invariant in
    let line = c.first_line.result.0.now in
    let more = script_lines c.first_line.result.1.now in
    let split : script_lines c.args.script.now ≡ run.lines ++ line ∷ more =
    run.split ∙ ap (λ rest. run.lines ++ rest) c.first_line.ensures.lines in
    let at : c.loop-rest.number + 1 ≡ length run.lines + 1 = ap (λ n. n + 1) run.at in
    let command : is_silent line ≡ false = search rules in
    let may = c.in-Err.ensures.0 run.led run.stands in
    record {
      answers = run.answers;
      printed = c.in-Err.ensures.1 ∙ run.printed;
      report = lines_before _ run.lines run.answers line more run.led (c.loop-rest.number + 1)
          (fault_told c.in-Err.fault) split at run.ran command may;
    }

pub loop-rest-preserved-in-Ok : goal.loop-rest-preserved-in-Ok
loop-rest-preserved-in-Ok c =
    let run = c.loop-rest.invariant in
    let line = c.first_line.result.0.now in
    let command : is_silent line ≡ false = search rules in
    let answered = c.in-Ok.ensures run.led run.stands in
    record {
      lines = run.lines ++ line ∷ [];
      answers = run.answers ++ answered.answer ∷ [];
      led = answered.next;
      split = split_next _ _ _ _ _ run.split c.first_line.ensures.lines;
      at = ap (λ n. n + 1) run.at ∙ sym (one_more run.lines line);
      ran = LeadTo-prints run.lines run.answers line answered.answer run.led answered.next run.ran command answered.gives;
      stands = answered.stands;
      printed =
          answered.printed
          ∙ ap (λ before. before ++ line_text answered.answer) run.printed
          ∙ printed_next c.args.printed.now.items run.answers answered.answer;
      count = let shorter = c.first_line.ensures.shorter in omega (arith, run.count, shorter);
    }

pub loop-rest-preserved : goal.loop-rest-preserved
loop-rest-preserved c =
    let run = c.loop-rest.invariant in
    let line = c.first_line.result.0.now in
    let silent : is_silent line ≡ true = search rules in
    record {
      lines = run.lines ++ line ∷ [];
      answers = run.answers;
      led = run.led;
      split = split_next _ _ _ _ _ run.split c.first_line.ensures.lines;
      at = ap (λ n. n + 1) run.at ∙ sym (one_more run.lines line);
      ran = LeadTo-silent run.lines run.answers line run.led run.ran silent;
      stands = run.stands;
      printed = run.printed;
      count = let shorter = c.first_line.ensures.shorter in omega (arith, run.count, shorter);
    }

pub returns : goal.returns
returns c =
    let run = c.loop-rest.invariant in
    let none = no_lines c.loop-rest.rest.now (search rules) in
    let all : script_lines c.args.script.now ≡ run.lines = run.split ∙ ap (λ rest. run.lines ++ rest) none ∙ append-nil run.lines in
    record {
      answers = run.answers;
      printed = run.printed;
      report = all_lines _ run.lines run.answers run.led all run.ran;
    }
