-- What a stream is filtered by, and what that comes to.
use Rattle.std.specs.Prelude.{ℕ, ◌≡◌, List, Option, Some, Result, Ok, Err}
use Rattle.filters.specs.OpsText.{ops_of}
use Rattle.filters.specs.declared.op.Op.{Op}
use Rattle.row_bands.specs.declared.band_height.BandHeight.{BandHeight}
use Rattle.y4m_stream.specs.Filtered.{IsFilteredAhead}
use Rattle.y4m_stream.specs.declared.fault.FilterFault.{FilterFault}
use Rattle.serve_words.specs.declared.request.FilterWords.{FilterWords}

-- the operations and the rows of a band are those of the words
pub record AreAsked (words : FilterWords) (ops : List Op) (height : BandHeight) : Type 0 where
  pub operations : ops_of words.operations.now ≡ Some ops
  pub band : height.rows ≡ words.band

-- what is answered where the input is filtered by these operations, however far it was read ahead, and what
-- was written
abbrev pub IsFilteredBy : List Op → BandHeight → (input before after : Option (List ℕ))
    → Result ℕ FilterFault → Type 0
IsFilteredBy ops height input before after answer = (left : Option (List ℕ))
    × IsFilteredAhead answer ops height
    (record { input = input; left = left; before = before; after = after })

-- what is answered where the input is filtered as the words ask, and what was written
pub record Filters (words : FilterWords) (input before after : Option (List ℕ))
    (answer : Result ℕ FilterFault) : Type 0 where
  pub ops : List Op
  pub height : BandHeight
  pub asked : AreAsked words ops height
  pub filtered : IsFilteredBy ops height input before after answer

-- the whole input was filtered
abbrev pub FiltersAll : FilterWords → (input before after : Option (List ℕ)) → Type 0
FiltersAll words input before after = (count : ℕ) × Filters words input before after (Ok count)

-- it was filtered up to a fault
abbrev pub FiltersTo : FilterWords → (input before after : Option (List ℕ)) → Type 0
FiltersTo words input before after = (fault : FilterFault) × Filters words input before after (Err fault)
