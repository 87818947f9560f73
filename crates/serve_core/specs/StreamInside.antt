-- What a stream keeps, and what it stands for.
use Rattle.std.specs.Prelude.{◌≡◌, ◌+◌, ◌≤◌, length, is_some}
use Rattle.std.specs.List.{AllByRecursion}
use Rattle.stream_queue.specs.Queue.{IsQueue}
use Rattle.serve_core.specs.declared.stream.Stream.TheInside.{Inside}
use Rattle.serve_core.specs.Setup.{HasBandwidth, IsWithinLimits, steps}
use Rattle.serve_core.specs.Sound.{out_count}
use Rattle.serve_core.specs.Streams.{AreHere, IsLeased, IsPair, KeptStream, frames_here}

abbrev pub stream : Inside → KeptStream
stream a = record {
  state = record {
    spec = a.spec;
    accepted = a.queue.accepted;
    finished = a.queue.finished;
    collected = a.collected;
    is_closed = a.queue.is_closed;
    charged = a.charged;
    done = a.done;
    holder = a.holder;
    account = a.account;
    frames = frames_here a.outbox.items a.leased a.queue.waiting;
  };
  leased = a.leased;
  jobs = a.queue.waiting;
  images = a.outbox.items;
}

pub record IsStream (a : Inside) : Type 0 where
  pub limits : IsWithinLimits a.spec
  pub bandwidth : HasBandwidth a.spec
  pub queue : IsQueue a.queue
  pub out : is_some a.holder ≡ a.queue.is_out
  pub places : a.queue.capacity ≡ a.spec.queue
  pub room : a.outbox.capacity ≡ a.spec.outbox
  pub collected : a.collected + length a.outbox.items ≡ a.queue.finished
  -- a frame that is out has room in the outbox
  pub fits : length a.outbox.items + out_count a.holder ≤ a.outbox.capacity
  pub frames : a.queue.accepted ≤ a.spec.frames
  pub done : a.done ≤ steps a.spec
  pub leased : IsLeased a.queue.is_out a.spec.chain a.done a.leased
  pub jobs : AreHere a.queue.is_out a.spec.chain a.done a.scratch a.queue.waiting
  pub images : AllByRecursion (IsPair a.spec.chain) a.outbox.items
