-- The words that refusals are told by.
use Rattle.std.specs.Prelude.{ℕ, List, codes}
use Rattle.y4m_header.specs.declared.error.HeaderError.{HeaderError}
use Rattle.y4m_header.specs.declared.error.HeaderError.TheVariants.{NotY4m, BadNumber, RepeatedTag}
use Rattle.y4m_header.specs.declared.error.HeaderError.TheVariants.{MissingSize, UnknownChroma, NotDivisible}
use Rattle.y4m_header.specs.declared.error.HeaderError.TheVariants.{TooLarge, NoMemory, NotFrame}

abbrev pub header_word : HeaderError → List ℕ
header_word NotY4m = codes "NotY4m"
header_word BadNumber = codes "BadNumber"
header_word RepeatedTag = codes "RepeatedTag"
header_word MissingSize = codes "MissingSize"
header_word UnknownChroma = codes "UnknownChroma"
header_word NotDivisible = codes "NotDivisible"
header_word TooLarge = codes "TooLarge"
header_word NoMemory = codes "NoMemory"
header_word NotFrame = codes "NotFrame"
