-- The streams that haven't ended, in the order of their lines, and the places that are taken.
use Rattle.std.specs.Prelude.{ℕ, ◌+◌, ◌≡◌, Bool, true, false, nat_eq, not, ◌&&◌, List, filter, length, remove}
use Rattle.std.specs.Prelude.{None, slice_index_or}
use Rattle.std.specs.Arc.{arc_value}
use Rattle.std.specs.List.{list_all, list_any}
use Rattle.y4m_stream.specs.declared.device.Sink as sinks
use Rattle.y4m_stream.specs.declared.device.Source as sources
use Rattle.serve_report.specs.Holdings.{is_free_since}
use Rattle.serve_report.specs.declared.control.entry.Entry.{Entry}
use Rattle.serve_report.specs.declared.control.entry.Stage.{Stage}
use Rattle.serve_report.specs.declared.control.entry.Stage.TheVariants as stages
use Rattle.serve_report.specs.declared.control.holders.Holder.{Holder}
use Rattle.serve_report.specs.declared.control.order.Order.{Order}
use Rattle.serve_report.specs.declared.control.still_read.Left.{Left}

-- whether a stream that has ended has this number among all that were asked for
abbrev pub is_of : Holder → ℕ → Bool
is_of holder number = let order : Order = arc_value holder.order in nat_eq order.number number

-- whether the stream of an input that is still read is none of these
abbrev pub is_beside : List Holder → Left → Bool
is_beside holders left = not (list_any (λ holder. is_of holder left.number) holders)

-- how many places are taken: by so many streams, by those that have ended, and by the others of which an input
-- is still read
abbrev pub places_taken : (entries : ℕ) → List Holder → List Left → ℕ
places_taken entries holders inputs = entries + length holders + length (filter (is_beside holders) inputs)

module _ {R W : Type 0} {source : sources.Ghosts R} {sink : sinks.Ghosts W} where
  -- whether a stream is served under this ticket
  abbrev pub is_under : ℕ → Stage R W source sink → Bool
  is_under ticket (stages.Served one) = nat_eq one ticket
  is_under ticket stage = false

  -- whether it waits to be served
  abbrev pub is_ready : Stage R W source sink → Bool
  is_ready (stages.Ready ready) = true
  is_ready stage = false

  -- whether it is served
  abbrev pub is_served : Stage R W source sink → Bool
  is_served (stages.Served ticket) = true
  is_served stage = false

module _ {R W S : Type 0} {source : sources.Ghosts R} {sink : sinks.Ghosts W} where
  -- whether it is served next, if the first such is: it waits to be, and no share of those is held any more
  -- that was free when its own was taken
  abbrev pub is_next : (holders : List Holder) (freed : ℕ) → Entry R W S source sink → Bool
  is_next holders freed entry =
      is_ready entry.stage && list_all (is_free_since freed entry.share.since) holders

  -- the one at this place is taken out, and nothing is held open for it any more
  pub record IsTakenOut (place : ℕ) (old new : List (Entry R W S source sink))
      (taken : Entry R W S source sink) : Type 0 where
    pub entry : Entry R W S source sink
    pub stood : entry ≡ slice_index_or old place entry
    pub is : taken ≡ record entry { held = None }
    pub left : new ≡ remove old place
