use Rattle.std.proofs.Common.{◌≡◌, ℕ, ◌+◌, ◌≤◌, List, ◌++◌, length}
use Rattle.serve_script.specs.ScriptInside.{Stands}
use Rattle.serve_script.specs.ScriptReport.{LeadTo, text_of_lines}
use Rattle.serve_script.specs.ScriptState.{Fresh, ScriptState}
use Rattle.serve_script.specs.ScriptText.{script_lines}
use Rattle.serve_script.proofs.run.run_lines.Given as goal

-- the lines before those that are left have run, and their answers were printed
abbrev pub invariant-loop-rest : goal.invariant-loop-rest
invariant-loop-rest l =
    record {
      lines : List (List ℕ);
      answers : List (List ℕ);
      led : ScriptState;
      split : script_lines l.script ≡ lines ++ script_lines l.rest;
      at : l.number ≡ length lines;
      ran : LeadTo Fresh lines answers led;
      stands : Stands l.state led;
      printed : l.printed.items ≡ l.fn.printed.items ++ text_of_lines answers;
      count : l.number + length l.rest ≤ length l.script;
    }

abbrev pub decreases-loop-rest : goal.decreases-loop-rest
decreases-loop-rest l = length l.rest
