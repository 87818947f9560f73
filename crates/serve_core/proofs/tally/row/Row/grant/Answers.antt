use Rattle.std.proofs.Common.{◌≤◌, sym, subst, rules}
use Rattle.serve_core.specs.Bare.{Blank}
use Rattle.serve_core.specs.Setup.{steps}
use Rattle.serve_core.specs.States.{StreamState}
use Rattle.serve_core.proofs.Bands.Costs.{steps_are}
use Rattle.serve_core.proofs.tally.row.Row.grant.Goals as goal

pub grant_of-requires : goal.grant_of-requires
grant_of-requires c =
    let few = subst (λ (x : StreamState Blank). x.done ≤ steps x.spec) (sym c.self.view_is) c.requires in
    search (rules, steps_are, few)
