-- What an epoch leaves to the next where its released streams are taken out.
use Rattle.std.specs.Prelude.{List, filter, map}
use Rattle.serve_core.specs.Retired.{new_number, retired_schedule, stays}
use Rattle.serve_core.specs.Schedule.{ScheduleValue}
use Rattle.serve_hub.specs.Books.{opened_book}
use Rattle.serve_hub.specs.Ends.{EndedValue}
use Rattle.serve_hub.specs.Seats.{StreamRest}

-- what a stream's seat left, under the number that its stream has then
abbrev pub renumbered : ScheduleValue → StreamRest → StreamRest
renumbered desk rest = record rest { number = new_number desk rest.number }

-- what the seats left of the streams that stay
abbrev pub rests_kept : ScheduleValue → List StreamRest → List StreamRest
rests_kept desk rests = map (renumbered desk) (filter (λ rest. stays desk rest.number) rests)

-- what is left without the streams that are released, and without the journal: those that stay are numbered
-- anew, in their order, and nothing else of them changes
abbrev pub retired_end : EndedValue → EndedValue
retired_end e = record {
  book = opened_book (retired_schedule e.book.desk) e.book.limit;
  streams = rests_kept e.book.desk e.streams;
}
