-- What a replay's answer says of the report that it wrote.
use Rattle.std.proofs.Common.{◌≡◌, ℕ, ◌<◌, ◌≤◌, ◌⊎◌, inl, inr, Bool, List, [], ◌++◌, drop, length, Option}
use Rattle.std.proofs.Common.{Some, None, Result, Ok, Err, IfSome, OnOk, refl, sym, ap, subst, ◌∙◌, arith}
use Rattle.std.proofs.Common.{length-append}
use Rattle.std.proofs.Math.Nat.{eq-or-lt_of_le}
use Rattle.std.proofs.Math.Seq.{drop-append_seam}
use Rattle.std.proofs.lemmas.List.{append-nil, drop_all}
use Rattle.std.specs.Io.KnownBytes.{Consumes, IsAtEnd}
use Rattle.std.specs.Option.{option_map}
use Rattle.serve_script.specs.ScriptDevices.{TakesScript}
use Rattle.serve_script.specs.ScriptFault as faults
use Rattle.serve_script.specs.ScriptFault.{Fault}
use Rattle.serve_script.specs.ScriptInside.{IsWritten, Reports, stop_told}
use Rattle.serve_script.specs.ScriptReplay.{IsReplay, answer_at, answer_of}
use Rattle.serve_script.specs.ScriptReport.{IsKeptReport, IsReport, Report, Stop, report_of, report_text, stop_text}
use Rattle.serve_script.specs.declared.fault.ReplayFault.{ReplayFault}
use Rattle.serve_script.specs.declared.fault.ReplayFault.TheVariants.{Read, Write, NoMemory}
use Rattle.serve_script.specs.declared.fault.ScriptStop.{ScriptStop}

-- a failed read is no answer of a report
no_read_at : (fault : Fault) → Err Read ≡ answer_at fault → ⊥
no_read_at faults.NoMemory e = absurd cc
no_read_at fault e = absurd cc

no_read : (stop : Option Stop) → Err Read ≡ answer_of stop → ⊥
no_read None e = absurd cc
no_read (Some stop) e = no_read_at stop.fault e

-- a report that was written is told by its stop
replayed : (script : List ℕ) (report : Report) (old new : Option (List ℕ)) (printed : List ℕ) (answer : Result Bool ReplayFault)
    → IsReport script report → printed ++ stop_text report.stop ≡ report_text report
    → IsWritten old new printed report.stop answer → IsReplay script old new answer
replayed script report old new printed (Err Read) is same wrote = absurd (no_read report.stop wrote.1)
replayed script report old new printed (Err Write) is same wrote = (report, is, rw same at wrote)
replayed script report old new printed (Err NoMemory) is same wrote = (report, is, rw same at wrote.0, wrote.1)
replayed script report old new printed (Ok ran) is same wrote = (report, is, rw same at wrote.0, wrote.1)

-- what follows a script that is too long as it was read changes no report
report_of_front : (script rest : List ℕ) (report : Report) → (length script < 1048577 → rest ≡ []) → IsKeptReport script report
    → IsKeptReport (script ++ rest) report
report_of_front script rest report at_end (inr long) = inr (omega (arith, length-append script rest, long.0), long.1)
report_of_front script rest report at_end (inl fits) =
    let none : rest ≡ [] = at_end (omega (arith, fits.0)) in
    subst (λ (all : List ℕ). IsKeptReport all report) (sym (ap (λ (more : List ℕ). script ++ more) none ∙ append-nil script)) (inl fits)

-- what a run printed was written
pub replayed_input : (input later : Option (List ℕ)) (script printed : List ℕ) (stop : Option ScriptStop)
    (old new : Option (List ℕ)) (answer : Result Bool ReplayFault)
    → Consumes input later script → (length script < 1048577 → IsAtEnd later) → Reports (IsKeptReport script) stop [] printed
    → IsWritten old new printed (option_map stop_told stop) answer → IfSome input (λ whole. IsReplay whole old new answer)
replayed_input None later script printed stop old new answer consumed at_end reports wrote = tt
replayed_input (Some text) None script printed stop old new answer consumed at_end reports wrote = absurd consumed
replayed_input (Some text) (Some rest) script printed stop old new answer consumed at_end reports wrote =
    let report = report_of reports.answers (option_map stop_told stop) in
    let is = report_of_front script rest report at_end reports.report in
    replayed text report old new printed answer (rw consumed (inl is))
    (ap (λ (front : List ℕ). front ++ stop_text (option_map stop_told stop)) reports.printed) wrote

-- a script that couldn't be kept
pub replayed_unkept : (input old new : Option (List ℕ)) (printed : List ℕ) (answer : Result Bool ReplayFault) → printed ≡ []
    → IfSome input (λ whole. 0 < length whole)
    → IsWritten old new printed (Some (record { line = 0; fault = faults.NoMemory })) answer
    → IfSome input (λ whole. IsReplay whole old new answer)
replayed_unkept None old new printed answer none some wrote = tt
replayed_unkept (Some text) old new printed answer none some wrote =
    let stop : Option Stop = Some (record { line = 0; fault = faults.NoMemory }) in
    replayed text (report_of [] stop) old new printed answer (inr (some, refl))
    (ap (λ (front : List ℕ). front ++ stop_text stop) none) wrote

-- the bytes that were read are those of a script and one more, or all of them
taken_whole : (bytes rest : List ℕ) → (length bytes ≡ 1048577) ⊎ (length bytes < 1048577) → (length bytes < 1048577 → rest ≡ [])
    → rest ≡ drop 1048577 (bytes ++ rest)
taken_whole bytes rest (inl full) at_end =
    sym (subst (λ (count : ℕ). drop count (bytes ++ rest) ≡ rest) full (drop-append_seam bytes rest))
taken_whole bytes rest (inr less) at_end =
    let none = at_end less in
    let short : length (bytes ++ rest) ≤ 1048577 =
    omega (arith, length-append bytes rest, ap (λ (more : List ℕ). length more) none, less) in
    none ∙ sym (drop_all 1048577 (bytes ++ rest) short)

pub takes_script : (input later : Option (List ℕ)) (bytes : List ℕ) → Consumes input later bytes → length bytes ≤ 1048577
    → (length bytes < 1048577 → IsAtEnd later) → TakesScript input later
takes_script None later bytes consumed bound at_end = tt
takes_script (Some whole) None bytes consumed bound at_end = absurd consumed
takes_script (Some whole) (Some rest) bytes consumed bound at_end =
    ap Some (taken_whole bytes rest (eq-or-lt_of_le bound) at_end
    ∙ ap (λ (text : List ℕ). drop 1048577 text) (sym consumed))

-- what holds of each answer holds of those without a fault
pub on_ok : {T E : Type 0} (answer : Result T E) (P : Type 0) → P → OnOk answer P
on_ok (Ok value) P p = p
on_ok (Err error) P p = tt
