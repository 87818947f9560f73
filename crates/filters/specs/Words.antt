-- The words that refusals of operations are told by.
use Rattle.std.specs.Prelude.{ℕ, List, codes}
use Rattle.filters.specs.declared.error.FilterError.{FilterError}
use Rattle.filters.specs.declared.error.FilterError.TheVariants.{BadOp, TooManyOps, BadCrop}
use Rattle.filters.specs.declared.error.FilterError.TheVariants.{TooManySteps, NoMemory}

abbrev pub filter_word : FilterError → List ℕ
filter_word BadOp = codes "BadOp"
filter_word TooManyOps = codes "TooManyOps"
filter_word BadCrop = codes "BadCrop"
filter_word TooManySteps = codes "TooManySteps"
filter_word NoMemory = codes "NoMemory"
