-- What an epoch leaves to the next where the clock goes on between them.
use Rattle.std.specs.Prelude.{ℕ}
use Rattle.serve_core.specs.Ticked.{at_moment}
use Rattle.serve_hub.specs.Books.{opened_book}
use Rattle.serve_hub.specs.Ends.{EndedValue}

-- what is left where the clock went on to a moment, unless it was past that, without the journal
abbrev pub ticked_end : ℕ → EndedValue → EndedValue
ticked_end at e = record {
  book = opened_book (at_moment at e.book.desk) e.book.limit;
  streams = e.streams;
}
