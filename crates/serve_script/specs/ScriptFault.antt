-- What is wrong with a script, and how it is told.
use Rattle.std.specs.Prelude.{ℕ, List, [], ◌++◌, codes, Option, Some, None}
use Rattle.std.specs.Option.{option_map_or}
use Rattle.filters.specs.declared.error.FilterError.{FilterError}
use Rattle.filters.specs.declared.error.FilterError.TheVariants as filter
use Rattle.filters.specs.Words.{filter_word}
use Rattle.y4m_header.specs.declared.error.HeaderError.{HeaderError}
use Rattle.y4m_header.specs.declared.error.HeaderError.TheVariants as header
use Rattle.y4m_header.specs.Words.{header_word}
use Rattle.serve_script.specs.declared.fault.ScriptFault.{ScriptFault}
use Rattle.serve_script.specs.declared.fault.ScriptFault.TheVariants as faults

-- what is wrong with a line of a script, or with the script as a whole
pub data Fault : Type 0 where
  BadLine : Fault
  BadName : Fault
  BadBandwidth : Fault
  Range : Fault
  BadHeader : (error : HeaderError) → Fault
  BadChain : (error : FilterError) → Fault
  BadLimits : Fault
  -- of the stream of this name
  BadBandwidthOf : (name : List ℕ) → Fault
  OverloadOf : (name : List ℕ) → Fault
  TooLong : Fault
  NoMemory : Fault

-- a fault of the program as scripts have it
abbrev pub fault_told : ScriptFault → Fault
fault_told faults.BadLine = BadLine
fault_told faults.BadName = BadName
fault_told faults.BadBandwidth = BadBandwidth
fault_told faults.Range = Range
fault_told (faults.BadHeader error) = BadHeader error
fault_told (faults.BadChain error) = BadChain error
fault_told faults.BadLimits = BadLimits
fault_told (faults.BadBandwidthOf name) = BadBandwidthOf name.now
fault_told (faults.OverloadOf name) = OverloadOf name.now
fault_told faults.TooLong = TooLong
fault_told faults.NoMemory = NoMemory

abbrev pub fault_word : Fault → List ℕ
fault_word BadLine = codes "BadLine"
fault_word BadName = codes "BadName"
fault_word BadBandwidth = codes "BadBandwidth"
fault_word Range = codes "Range"
fault_word (BadHeader error) = header_word error
fault_word (BadChain error) = filter_word error
fault_word BadLimits = codes "BadLimits"
fault_word (BadBandwidthOf name) = codes "BadBandwidth"
fault_word (OverloadOf name) = codes "Overload"
fault_word TooLong = codes "TooLong"
fault_word NoMemory = codes "NoMemory"

-- the name of the stream whose fault it is, where it is one stream's
abbrev pub fault_name : Fault → Option (List ℕ)
fault_name (BadBandwidthOf name) = Some name
fault_name (OverloadOf name) = Some name
fault_name fault = None

-- ` NAME`, if there is one
abbrev pub name_text : Option (List ℕ) → List ℕ
name_text name = option_map_or (λ text. codes " " ++ text) name []

-- `WORD` or `WORD NAME`
abbrev pub fault_text : Fault → List ℕ
fault_text fault = fault_word fault ++ name_text (fault_name fault)

-- the fault of a header line that is refused
abbrev pub header_fault : HeaderError → Fault
header_fault header.NoMemory = NoMemory
header_fault error = BadHeader error

-- the fault of operations that are none, or make no chain
abbrev pub filter_fault : FilterError → Fault
filter_fault filter.NoMemory = NoMemory
filter_fault error = BadChain error
