-- What a tally keeps, and what it stands for.
use Rattle.serve_core.specs.declared.tally.Tally.TheInside.{Inside}
use Rattle.serve_core.specs.Bare.{Blank, measures_any, is_any_image}
use Rattle.serve_core.specs.Reached.{IsReached}
use Rattle.serve_core.specs.States.{State}

abbrev pub tally : Inside → State Blank
tally a = record {
  clock = a.clock;
  quantum = a.quantum;
  streams = a.rows.items;
  workers = a.workers.items;
}

-- a legal transcript of a setup led there
abbrev pub IsTally : Inside → Type 0
IsTally a = IsReached measures_any is_any_image (tally a)
