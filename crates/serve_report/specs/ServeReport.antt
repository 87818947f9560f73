-- What is reported of a stream that was served.
use Rattle.std.specs.Prelude.{ℕ, Bool, true, false, List, ◌++◌, codes, decimal}
use Rattle.serve_core.specs.declared.refusal.Refusal.TheVariants as cores
use Rattle.serve_hub.specs.declared.refusal.Refusal.{Refusal}
use Rattle.serve_hub.specs.declared.refusal.Refusal.TheVariants.{Core}
use Rattle.serve_client.specs.declared.stop.Stop.{Stop}
use Rattle.serve_client.specs.declared.stop.Stop.TheVariants as clients
use Rattle.serve_client.specs.Words.{cause_word}
use Rattle.filters.specs.Words.{filter_word}
use Rattle.y4m_stream.specs.Words.{read_text, write_text}
use Rattle.serve_report.specs.declared.serve.report.AdmitFault.{AdmitFault}
use Rattle.serve_report.specs.declared.serve.report.AdmitFault.TheVariants as admits
use Rattle.serve_report.specs.declared.serve.report.StreamRow.{StreamRow}
use Rattle.serve_report.specs.declared.serve.report.StreamStop.{StreamStop}
use Rattle.serve_report.specs.declared.serve.report.StreamStop.TheVariants as stops

-- the word that it is told by why a stream isn't admitted
abbrev pub admit_word : AdmitFault → List ℕ
admit_word admits.TooManyStreams = codes "TooManyStreams"
admit_word admits.BadLimits = codes "BadLimits"
admit_word admits.BadBandwidth = codes "BadBandwidth"
admit_word admits.Overload = codes "Overload"
admit_word admits.NoMemory = codes "NoMemory"

-- why a stream isn't admitted whose admission was refused so
abbrev pub admit_fault : Refusal → AdmitFault
admit_fault (Core cores.TooManyStreams) = admits.TooManyStreams
admit_fault (Core cores.BadLimits) = admits.BadLimits
admit_fault (Core cores.BadBandwidth) = admits.BadBandwidth
admit_fault (Core cores.Overload) = admits.Overload
admit_fault refusal = admits.NoMemory

abbrev pub stop_text : StreamStop → List ℕ
stop_text stops.Whole = codes "whole"
stop_text stops.Open = codes "open"
stop_text (stops.Read fault) = codes "read " ++ read_text fault
stop_text (stops.Ops error) = codes "ops " ++ filter_word error
stop_text stops.Create = codes "create"
stop_text (stops.Write fault) = codes "write " ++ write_text fault
stop_text (stops.Refused cause) = codes "refused " ++ cause_word cause
stop_text stops.Torn = codes "torn"
stop_text stops.Closed = codes "closed"
stop_text (stops.Admit fault) = codes "admit " ++ admit_word fault

-- it came to no bad end
abbrev pub is_well : StreamStop → Bool
is_well stops.Whole = true
is_well stops.Closed = true
is_well stop = false

-- `NAME accepted A delivered D charged U stop STOP`
abbrev pub row_text : StreamRow → List ℕ
row_text row =
    row.name.now
    ++ codes " accepted " ++ decimal row.accepted
    ++ codes " delivered " ++ decimal row.delivered
    ++ codes " charged " ++ decimal row.charged
    ++ codes " stop " ++ stop_text row.stop

-- how a client stopped
abbrev pub stop_told : Stop → StreamStop
stop_told clients.Whole = stops.Whole
stop_told (clients.Read fault) = stops.Read fault
stop_told (clients.Write fault) = stops.Write fault
stop_told (clients.Refused cause) = stops.Refused cause
stop_told clients.Torn = stops.Torn
