use Rattle.std.proofs.Common.{[], drop, Option}
use Rattle.cbs_account.specs.Admission.{load_of}
use Rattle.serve_words.specs.ServeChecks.{AdmissionGives, Fault, all_told}
use Rattle.serve_words.proofs.checks.admit_all.Given as goal

-- what comes of the streams that are left comes of all
abbrev pub invariant-loop-asked : goal.invariant-loop-asked
invariant-loop-asked l = (found : Option Fault)
    → AdmissionGives l.admission (all_told (drop l.asked-index l.streams)) found
    → AdmissionGives (load_of l.workers []) (all_told l.streams) found
