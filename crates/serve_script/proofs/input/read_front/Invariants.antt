use Rattle.std.proofs.Common.{◌≡◌, ◌-◌, ◌≤◌, vec_len}
use Rattle.std.specs.Io.KnownBytes.{Consumes}
use Rattle.serve_script.proofs.input.read_front.Given as goal

abbrev pub invariant-loop-chunk : goal.invariant-loop-chunk
invariant-loop-chunk g l = record {
  within : vec_len l.bytes ≤ l.limit;
  read : Consumes (g.R.Source.remaining l.fn.input) (g.R.Source.remaining l.input) l.bytes.items;
  failures : g.R.Source.failures l.input ≡ g.R.Source.failures l.fn.input;
}

abbrev pub decreases-loop-chunk : goal.decreases-loop-chunk
decreases-loop-chunk g l = l.limit - vec_len l.bytes
