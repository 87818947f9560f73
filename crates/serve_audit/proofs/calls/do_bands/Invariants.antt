use Rattle.std.proofs.Common.{true}
use Rattle.serve_core.specs.AtOnce.{bands}
use Rattle.serve_audit.specs.Audit.{Follows}
use Rattle.serve_audit.proofs.calls.do_bands.Given as goal

abbrev pub invariant-loop-band : goal.invariant-loop-band
invariant-loop-band l = Follows l.fn.tally (bands l.fn.w l._band) true l.tally
