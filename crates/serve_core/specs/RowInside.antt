-- What a stream of a tally keeps, and what it stands for.
use Rattle.std.specs.Prelude.{◌-◌, ◌≤◌}
use Rattle.serve_core.specs.declared.tally.row.Row.TheInside.{Inside}
use Rattle.serve_core.specs.Bare.{Blank}
use Rattle.serve_core.specs.Desk.{blanks}
use Rattle.serve_core.specs.Setup.{HasBandwidth, IsWithinLimits}
use Rattle.serve_core.specs.States.{StreamState}

abbrev pub row : Inside → StreamState Blank
row a = record {
  spec = a.spec;
  accepted = a.accepted;
  finished = a.finished;
  collected = a.collected;
  is_closed = a.is_closed;
  charged = a.charged;
  done = a.done;
  holder = a.holder;
  account = a.account;
  frames = blanks (a.accepted - a.collected);
}

pub record IsRow (a : Inside) : Type 0 where
  pub limits : IsWithinLimits a.spec
  pub bandwidth : HasBandwidth a.spec
  pub in_order : a.collected ≤ a.finished
  pub finished : a.finished ≤ a.accepted
