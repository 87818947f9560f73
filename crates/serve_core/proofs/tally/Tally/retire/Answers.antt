use Rattle.std.proofs.Common.{refl}
use Rattle.serve_core.specs.TallyInside.{tally}
use Rattle.serve_core.proofs.Calls.TallyStreams.{retire_went}
use Rattle.serve_core.proofs.tally.Tally.retire.Goals as goal

pub invariant_of-self : goal.invariant_of-self
invariant_of-self c =
    retire_went (tally c.self.inside) c.args.self.now c.drop_released.new.rows.items c.self.invariant c.self.view_is
    (c.if-not-may_retire.ensures.0 refl) c.drop_released.ensures
