-- The state that a transcript leads to, which is its summary, and what one more event makes of it.
use Rattle.std.specs.Prelude.{ℕ, zero, suc, ◌+◌, ◌-◌, Bool, true, ◌&&◌, List, [], ◌∷◌, ◌++◌, drop, map}
use Rattle.std.specs.Prelude.{replicate, nat_eq, nat_lt, Option, Some, None, is_none, if◌then◌else◌}
use Rattle.cbs_account.specs.Balance.{Balance}
use Rattle.cbs_account.specs.Rules.{after_units, after_idle, cbs}
use Rattle.serve_core.specs.declared.held.Held.{Held}
use Rattle.serve_core.specs.Counts.{Deed, Came, Worked, Lent, Back, Ended, Shut, Taken, deed, history}
use Rattle.serve_core.specs.Counts.{clock_after, now, held_after, held, waiting, own_events, accepted}
use Rattle.serve_core.specs.Counts.{finished, collected, is_closed, charged, done, holder, specs}
use Rattle.serve_core.specs.Events.{Event, Reply, Transcript, Start, with_admitted}
use Rattle.serve_core.specs.Grants.{cost_of_band}
use Rattle.serve_core.specs.Setup.{Setup, StreamSpec, costs}

-- f of each item and its place
abbrev pub map_at : {X Y : Type 0} → ℕ → (ℕ → X → Y) → List X → List Y
map_at i f [] = []
map_at i f (x ∷ xs) = f i x ∷ map_at (suc i) f xs

-- one stream: its counts, its account, and its frames from the first that isn't collected on
pub record StreamState (F : Type 0) : Type 0 where
  pub spec : StreamSpec
  pub accepted : ℕ
  pub finished : ℕ
  pub collected : ℕ
  pub is_closed : Bool
  pub charged : ℕ
  -- how many bands of its first unfinished frame are done
  pub done : ℕ
  -- the worker that has this frame, if it is out
  pub holder : Option ℕ
  pub account : Balance
  pub frames : List F

pub record State (F : Type 0) : Type 0 where
  pub clock : ℕ
  pub quantum : ℕ
  pub streams : List (StreamState F)
  -- what each worker holds
  pub workers : List (Option Held)

abbrev pub held_at : List (Option Held) → ℕ → Option Held
held_at [] w = None
held_at (h ∷ hs) zero = h
held_at (h ∷ hs) (suc w) = held_at hs w

module _ {F : Type 0} where
  -- a stream after what happened to it
  abbrev pub stream_of : StreamSpec → List (Deed F) → StreamState F
  stream_of spec h = record {
    spec = spec;
    accepted = accepted h;
    finished = finished h;
    collected = collected h;
    is_closed = is_closed h;
    charged = charged (costs spec) h;
    done = done h;
    holder = holder h;
    account = cbs spec.maximum spec.period (own_events (costs spec) h);
    frames = waiting h;
  }

  -- one that nothing happened to yet
  abbrev pub new_stream : StreamSpec → StreamState F
  new_stream spec = stream_of spec []

  -- what the band that is next costs
  abbrev pub next_cost : StreamState F → ℕ
  next_cost x = cost_of_band x.done (costs x.spec)

  abbrev pub did : StreamState F → Deed F → StreamState F
  did x (Came t f) = record x {
    accepted = x.accepted + 1;
    account = if nat_eq x.accepted x.finished then after_idle t x.account else x.account;
    frames = x.frames ++ f ∷ [];
  }
  did x Worked = record x {
    charged = x.charged + next_cost x;
    done = x.done + 1;
    account = after_units (next_cost x) x.account;
  }
  did x (Lent w) = record x { holder = Some w }
  did x Back = record x { holder = None }
  did x Ended = record x { finished = x.finished + 1; done = 0; holder = None }
  did x Shut = record x { is_closed = true }
  did x Taken = record x { collected = x.collected + 1; frames = drop 1 x.frames }

  abbrev pub did_any : StreamState F → Option (Deed F) → StreamState F
  did_any x None = x
  did_any x (Some d) = did x d

  -- a stream can be leased: it has an unfinished frame, which isn't out, and room in its outbox
  abbrev pub is_ready : StreamState F → Bool
  is_ready x = nat_lt x.finished x.accepted &&
      (is_none x.holder && nat_lt (x.finished - x.collected) x.spec.outbox)

  abbrev pub ready_deadline : StreamState F → Option ℕ
  ready_deadline x = if is_ready x then Some x.account.deadline else None

  -- the deadlines of the streams that are ready, by stream
  abbrev pub deadlines : State F → List (Option ℕ)
  deadlines m = map ready_deadline m.streams

module _ {F G : Type 0} where
  -- no event yet
  abbrev pub opening : Transcript F G
  opening = Start

  -- what happened to stream s, the latest first
  abbrev pub past : Setup → ℕ → Transcript F G → List (Deed F)
  past setup s p = history setup s p

  -- where a transcript leads from the setup
  abbrev pub state_of : Setup → Transcript F G → State F
  state_of setup p = record {
    clock = now p;
    quantum = setup.quantum;
    streams = map_at 0 (λ s spec. stream_of spec (history setup s p)) (specs setup p);
    workers = map_at {X = ℕ} 0 (λ w none. held w p) (replicate setup.workers 0);
  }

  -- what an event and its reply make of a state
  abbrev pub after : State F → Event F → Reply F G → State F
  after m e r = record {
    clock = clock_after m.clock e r;
    quantum = m.quantum;
    streams = with_admitted new_stream e r
        (map_at 0 (λ s x. did_any x (deed s m.clock (held_at m.workers) e r)) m.streams);
    workers = map_at 0 (λ w h. held_after w h e r) m.workers;
  }
