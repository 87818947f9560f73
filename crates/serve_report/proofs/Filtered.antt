-- What filtering a stream came to, however far it was read ahead.
use Rattle.std.proofs.Common.{ℕ, List, Option, Result, Ok, Err, IsOk, arith, inl, inr, refl}
use Rattle.filters.specs.declared.op.Op.{Op}
use Rattle.row_bands.specs.declared.band_height.BandHeight.{BandHeight}
use Rattle.y4m_stream.specs.Filtered.{Ends, IsFiltered, IsLineAhead, Progress, StopsAt}
use Rattle.y4m_stream.specs.Front.{IsFrameAhead}
use Rattle.y4m_stream.specs.declared.fault.FilterFault.{FilterFault}
use Rattle.y4m_stream.specs.declared.fault.FilterFault.TheVariants.{Read, Ops, Write, TooManyFrames}
use Rattle.serve_report.specs.Filtering.{AreAsked, FiltersAll, FiltersTo, IsFilteredBy}
use Rattle.serve_words.specs.declared.request.FilterWords.{FilterWords}

stops_ahead : (fault : FilterFault) (at : Progress) (ends : Ends) → StopsAt IsLineAhead fault at 0 ends
    → StopsAt IsFrameAhead fault at 0 ends
stops_ahead (Read fault) at ends stops = stops
stops_ahead (Ops error) at ends stops = stops
stops_ahead (Write fault) at ends stops =
    ((stops.0.0, stops.0.1, omega (arith, stops.0.2)), stops.1)
stops_ahead TooManyFrames at ends stops = stops

-- no more was read ahead than a frame and a line, where it was no more than a line
pub filtered_ahead : (answer : Result ℕ FilterFault) (ops : List Op) (height : BandHeight) (input left before after : Option (List ℕ))
    → IsFiltered answer ops height (record { input = input; left = left; before = before; after = after })
    → IsFilteredBy ops height input before after answer
filtered_ahead (Ok count) ops height input left before after is = (left, is)
filtered_ahead (Err fault) ops height input left before after is = (
  left,
  elim is [
    | inl none ↦ inl none
    | inr stops ↦ inr (stops.0, stops_ahead fault _ _ stops.1)
  ],
)

module _ (words : FilterWords) (ops : List Op) (height : BandHeight) (input before after : Option (List ℕ)) where
  pub filters_all : (answer : Result ℕ FilterFault) → AreAsked words ops height
      → IsFilteredBy ops height input before after answer → IsOk answer → FiltersAll words input before after
  filters_all (Ok count) asked filtered ok = (count, record { ops = ops; height = height; asked = asked; filtered = filtered })
  filters_all (Err fault) asked filtered ok = absurd (cc)

  pub filters_to : (answer : Result ℕ FilterFault) → AreAsked words ops height
      → IsFilteredBy ops height input before after answer → ¬ IsOk answer → FiltersTo words input before after
  filters_to (Ok count) asked filtered fails = absurd (fails refl)
  filters_to (Err fault) asked filtered fails = (fault, record { ops = ops; height = height; asked = asked; filtered = filtered })
