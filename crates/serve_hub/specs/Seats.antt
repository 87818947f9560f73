-- What the seats of a hub keep.
use Rattle.std.specs.Prelude.{ℕ, suc, ◌+◌, ◌≡◌, ◌<◌, Bool, false, List, [], ◌∷◌, ◌++◌, All, length, map}
use Rattle.std.specs.Prelude.{sum_by, Option, Some, None}
use Rattle.std.specs.declared.alloc.Global.{Global}
use Rattle.std.specs.declared.sync.Arc.{Arc}
use Rattle.std.specs.Arc.{arc_value}
use Rattle.frame_view.specs.declared.frame.Frame.{Frame}
use Rattle.frame_view.specs.declared.geometry.Geometry.{Geometry}
use Rattle.filters.specs.Chain.{ChainValue}
use Rattle.filters.specs.ChainImage.{FrameValue, value_of}
use Rattle.serve_core.specs.Setup.{StreamSpec}
use Rattle.serve_hub.specs.declared.entry.Act.{Act}
use Rattle.serve_hub.specs.declared.entry.Act.TheVariants.{Collected}
use Rattle.serve_hub.specs.declared.moments.Moments.{Moments}
use Rattle.serve_hub.specs.Books.{BookValue}

-- the accepted calls of a seat, the oldest first, and how many entries its journal may have
pub record CallsValue : Type 0 where
  pub limit : ℕ
  pub list : List Act

abbrev pub with_call : Act → CallsValue → CallsValue
with_call act calls = record calls { list = calls.list ++ act ∷ [] }

-- who offers frames of a stream and collects its images
pub record StreamSeatValue : Type 0 where
  pub number : ℕ
  pub calls : CallsValue
  -- what is done to its frames
  pub chain : ChainValue
  -- Q and T of its stream's account
  pub maximum : ℕ
  pub period : ℕ
  -- how many of its frames may be unfinished, how many finished ones uncollected, and how many it may accept at
  -- all
  pub queue : ℕ
  pub outbox : ℕ
  pub frames : ℕ
  -- how many were accepted in all epochs, and when the first and the latest of this one were offered, if any
  -- was
  pub accepted : ℕ
  pub moments : Option Moments
  pub is_closed : Bool
  -- the frames that were accepted and aren't collected, the oldest first, and how many it has places for
  pub kept : List FrameValue
  pub places : ℕ
  -- how many images of its stream were collected before the seat was there
  pub before : ℕ
  -- how many had been collected when its stream's seat was first told Torn, if it was
  pub torn : Option ℕ

-- the moments of a seat's offers, with one more at this moment
abbrev pub moments_with : Option Moments → ℕ → Moments
moments_with None at = record { first = at; latest = at }
moments_with (Some before) at = record before { latest = at }

-- what a seat's stream is served with, as the seat tells it: its frames are of the size that its chain is for
abbrev pub spec_told : StreamSeatValue → StreamSpec
spec_told seat = record {
  geometry = seat.chain.geometry;
  chain = seat.chain;
  maximum = seat.maximum;
  period = seat.period;
  queue = seat.queue;
  outbox = seat.outbox;
  frames = seat.frames;
}

-- what the seat of a stream leaves for that of the next epoch
pub record StreamRest : Type 0 where
  pub number : ℕ
  pub chain : ChainValue
  pub maximum : ℕ
  pub period : ℕ
  pub queue : ℕ
  pub outbox : ℕ
  pub frames : ℕ
  -- how many frames were accepted, and how many images collected, in all epochs
  pub accepted : ℕ
  pub collected : ℕ
  pub is_closed : Bool
  pub kept : List FrameValue
  pub places : ℕ
  pub torn : Option ℕ

abbrev pub one_collection : Act → ℕ
one_collection (Collected number) = 1
one_collection act = 0

-- how many images of the seat's stream were collected, in all epochs
abbrev pub collected_by : StreamSeatValue → ℕ
collected_by seat = seat.before + sum_by one_collection seat.calls.list

-- a seat that is told Torn, where so many images of its stream were collected before: the first number stays
abbrev pub first_noted : Option ℕ → ℕ → Option ℕ
first_noted None n = Some n
first_noted (Some first) n = Some first

abbrev pub torn_at : ℕ → StreamSeatValue → StreamSeatValue
torn_at n seat = record seat { torn = first_noted seat.torn n }

-- the seat can keep one frame more
pub record HasPlace (seat : StreamSeatValue) : Type 0 where
  pub places : length seat.kept < seat.places
  pub few : seat.accepted < seat.frames

abbrev pub kept_more : FrameValue → StreamSeatValue → StreamSeatValue
kept_more frame seat = record seat { accepted = seat.accepted + 1; kept = seat.kept ++ frame ∷ [] }

-- the frames that a seat keeps
abbrev pub kept_in : List (Arc Frame Global) → List FrameValue
kept_in frames = map (λ f. value_of (arc_value f)) frames

-- all are of one size
abbrev pub AreSized : Geometry → List FrameValue → Type 0
AreSized geometry frames = All (λ f. f.geometry ≡ geometry) frames

-- who leases jobs and settles them
pub record WorkSeatValue : Type 0 where
  pub number : ℕ
  pub calls : CallsValue

-- how many seats a hub has: of the streams that it opened with, and of its workers; and how many entries its
-- journal may have
pub record HubValue : Type 0 where
  pub streams : ℕ
  pub workers : ℕ
  pub limit : ℕ

abbrev pub no_calls : ℕ → CallsValue
no_calls limit = record { limit = limit; list = [] }

abbrev pub left_by : StreamSeatValue → StreamRest
left_by seat = record {
  number = seat.number;
  chain = seat.chain;
  maximum = seat.maximum;
  period = seat.period;
  queue = seat.queue;
  outbox = seat.outbox;
  frames = seat.frames;
  accepted = seat.accepted;
  collected = collected_by seat;
  is_closed = seat.is_closed;
  kept = seat.kept;
  places = seat.places;
  torn = seat.torn;
}

-- the seat of a stream in the next epoch, without calls yet
abbrev pub seat_over : (limit : ℕ) → StreamRest → StreamSeatValue
seat_over limit rest = record {
  number = rest.number;
  calls = no_calls limit;
  chain = rest.chain;
  maximum = rest.maximum;
  period = rest.period;
  queue = rest.queue;
  outbox = rest.outbox;
  frames = rest.frames;
  accepted = rest.accepted;
  moments = None;
  is_closed = rest.is_closed;
  kept = rest.kept;
  places = rest.places;
  before = rest.collected;
  torn = rest.torn;
}

-- what there is of a stream before its first epoch
abbrev pub opened_rest : (number : ℕ) → StreamSpec → StreamRest
opened_rest number spec = record {
  number = number;
  chain = spec.chain;
  maximum = spec.maximum;
  period = spec.period;
  queue = spec.queue;
  outbox = spec.outbox;
  frames = spec.frames;
  accepted = 0;
  collected = 0;
  is_closed = false;
  kept = [];
  places = spec.queue + spec.outbox;
  torn = None;
}

abbrev pub opened_worker : (limit number : ℕ) → WorkSeatValue
opened_worker limit number = record { number = number; calls = no_calls limit }

-- for each of these streams, numbered from `first` on
abbrev pub opened_rests : (first : ℕ) → List StreamSpec → List StreamRest
opened_rests first [] = []
opened_rests first (spec ∷ specs) = opened_rest first spec ∷ opened_rests (suc first) specs

-- a seat for each of these streams, numbered from `first` on
abbrev pub opened_streams : (limit first : ℕ) → List StreamSpec → List StreamSeatValue
opened_streams limit first specs = map (seat_over limit) (opened_rests first specs)

-- what stands under the lock of a hub: the book, and how many seats there are
pub record SharedValue : Type 0 where
  pub book : BookValue
  pub streams : ℕ
  pub workers : ℕ

-- a hub without its lock, and the book that stood under it
pub record UnlockedValue : Type 0 where
  pub hub : HubValue
  pub book : BookValue

abbrev pub hub_of : (streams workers limit : ℕ) → HubValue
hub_of streams workers limit = record { streams = streams; workers = workers; limit = limit }
