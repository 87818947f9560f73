use Rattle.std.proofs.Common.{take}
use Rattle.serve_report.specs.Apart.{AreUses}
use Rattle.serve_words.specs.ServeChecks.{all_told}
use Rattle.serve_report.proofs.serve.apart.uses_of.Given as goal

-- the report's file and those of the streams so far
abbrev pub invariant-loop-asked : goal.invariant-loop-asked
invariant-loop-asked g l = AreUses g.F.Files.place_gives (all_told (take l.asked-index l.streams)) l.uses.items
