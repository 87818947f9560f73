-- The words that faults of a stream are told by.
use Rattle.std.specs.Prelude.{ℕ, List, ◌++◌, codes, decimal}
use Rattle.y4m_header.specs.Words.{header_word}
use Rattle.filters.specs.Words.{filter_word}
use Rattle.y4m_stream.specs.declared.fault.ReadFault.{ReadFault}
use Rattle.y4m_stream.specs.declared.fault.ReadFault.TheVariants as reads
use Rattle.y4m_stream.specs.declared.fault.WriteFault.{WriteFault}
use Rattle.y4m_stream.specs.declared.fault.WriteFault.TheVariants as writes
use Rattle.y4m_stream.specs.declared.fault.FilterFault.{FilterFault}
use Rattle.y4m_stream.specs.declared.fault.FilterFault.TheVariants as faults

abbrev pub read_word : ReadFault → List ℕ
read_word reads.Device = codes "Device"
read_word reads.LineTooLong = codes "LineTooLong"
read_word (reads.Header error) = codes "Header"
read_word reads.NotFrame = codes "NotFrame"
read_word reads.Truncated = codes "Truncated"
read_word reads.NoMemory = codes "NoMemory"
read_word reads.Failed = codes "Failed"

-- the word, and behind that of a refused header line why it is refused
abbrev pub read_text : ReadFault → List ℕ
read_text (reads.Header error) = read_word (reads.Header error) ++ codes " " ++ header_word error
read_text fault = read_word fault

-- how many bytes went out
abbrev pub write_text : WriteFault → List ℕ
write_text (writes.Device bytes) = decimal bytes
write_text writes.Failed = codes "Failed"

abbrev pub fault_text : FilterFault → List ℕ
fault_text (faults.Read fault) = codes "read " ++ read_text fault
fault_text (faults.Ops error) = codes "ops " ++ filter_word error
fault_text (faults.Write fault) = codes "write " ++ write_text fault
fault_text faults.TooManyFrames = codes "TooManyFrames"
