-- What is said while streams come and go.
use Rattle.std.specs.Prelude.{ℕ, List, ◌++◌, codes, decimal}
use Rattle.serve_report.specs.Control.{fault_word}
use Rattle.serve_report.specs.Quoted.{quoted_text}
use Rattle.serve_report.specs.ServeReport.{row_text}
use Rattle.serve_report.specs.declared.control.answer.Holding.{Holding}
use Rattle.serve_report.specs.declared.control.answer.Said.{Said}
use Rattle.serve_report.specs.declared.control.answer.Said.TheVariants as said
use Rattle.serve_report.specs.declared.control.answer.Standing.{Standing}

-- `accepted A finished F collected K charged U budget C deadline E`
abbrev pub standing_text : Standing → List ℕ
standing_text standing =
    codes "accepted " ++ decimal standing.accepted
    ++ codes " finished " ++ decimal standing.finished
    ++ codes " collected " ++ decimal standing.collected
    ++ codes " charged " ++ decimal standing.charged
    ++ codes " budget " ++ decimal standing.budget
    ++ codes " deadline " ++ decimal standing.deadline

-- `Q:T until M`
abbrev pub holding_text : Holding → List ℕ
holding_text holding =
    decimal holding.q ++ codes ":" ++ decimal holding.t ++ codes " until " ++ decimal holding.until

-- `line N: FAULT 'TEXT'`, `NAME admitted`, the report of a stream that ended, how one stands,
-- `NAME lost its output`, `NAME opening`, `NAME held Q:T until M`, `shares S of W`, `now M streams N`, `units N`
abbrev pub said_text : Said → List ℕ
said_text (said.Wrong number fault line) =
    codes "line " ++ decimal number ++ codes ": " ++ fault_word fault ++ codes " " ++ quoted_text line.now
said_text (said.Admitted name) = name.now ++ codes " admitted"
said_text (said.Ended row) = row_text row
said_text (said.Stands name standing) = name.now ++ codes " " ++ standing_text standing
said_text (said.StandsLost name standing) =
    name.now ++ codes " " ++ standing_text standing ++ codes " lost its output"
said_text (said.LostOutput name) = name.now ++ codes " lost its output"
said_text (said.Opening name) = name.now ++ codes " opening"
said_text (said.Held name holding) = name.now ++ codes " held " ++ holding_text holding
said_text (said.Shares shares whole) = codes "shares " ++ decimal shares ++ codes " of " ++ decimal whole
said_text (said.Now moment streams) = codes "now " ++ decimal moment ++ codes " streams " ++ decimal streams
said_text (said.Units units) = codes "units " ++ decimal units
