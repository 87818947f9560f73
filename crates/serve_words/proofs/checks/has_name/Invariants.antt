use Rattle.std.proofs.Common.{◌≡◌, drop}
use Rattle.serve_words.specs.ServeChecks.{all_told, is_named}
use Rattle.serve_words.proofs.checks.has_name.Given as goal

-- a stream that is left has the name where one of all has it
abbrev pub invariant-loop-asked : goal.invariant-loop-asked
invariant-loop-asked l =
    is_named l.name (all_told l.streams) ≡ is_named l.name (all_told (drop l.asked-index l.streams))
