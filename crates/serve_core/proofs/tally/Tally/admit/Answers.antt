use Rattle.std.proofs.Common.{refl}
use Rattle.serve_core.specs.Events.{Admit, Admitted}
use Rattle.serve_core.specs.TallyInside.{tally}
use Rattle.serve_core.proofs.Calls.Tallies.{right_in, told}
use Rattle.serve_core.proofs.Calls.TallyStreams.{admit_went}
use Rattle.serve_core.proofs.tally.Tally.admit.Goals as goal

pub invariant_of-self-2 : goal.invariant_of-self-2
invariant_of-self-2 c =
    let m = tally c.self.inside in
    let right = right_in (Admit c.args.spec) (Admitted c.args.s) c.self.view_is (c.if-not-may_admit.ensures.0 refl) in
    (admit_went m c.args.spec c.args.s c.new.result c.push.new.self.items c.self.invariant right c.new.ensures
    c.in_ok-push.ensures.items).reached

pub returns-clause-checks : goal.returns-clause-checks
returns-clause-checks c =
    let m = tally c.self.inside in
    let right = right_in (Admit c.args.spec) (Admitted c.args.s) c.self.view_is (c.if-not-may_admit.ensures.0 refl) in
    told (admit_went m c.args.spec c.args.s c.new.result c.push.new.self.items c.self.invariant right c.new.ensures
    c.in_ok-push.ensures.items) c.self.view_is
