use Rattle.std.proofs.Common.{ℕ, ◌≡◌, List, arith, length, subst, sym}
use Rattle.cbs_account.specs.Admission.{Fits}
use Rattle.serve_core.specs.Bare.{Blank}
use Rattle.serve_core.specs.States.{StreamState}
use Rattle.serve_core.specs.Tally.{held_of_rows}
use Rattle.serve_core.specs.TallyInside.{tally}
use Rattle.serve_core.proofs.Calls.Tallies.{reached_fits, reached_sound}
use Rattle.serve_core.proofs.tally.Tally.may_admit.Goals as goal

pub admission_of_held_shares-admission-requires-clause-most :
    goal.admission_of_held_shares-admission-requires-clause-most
admission_of_held_shares-admission-requires-clause-most c =
    omega (arith, (reached_sound (tally c.self.inside) c.self.invariant).workers, c.len-2.ensures, c.self.inside.workers.ok.0)

pub admission_of_held_shares-admission-requires-clause-fits :
    goal.admission_of_held_shares-admission-requires-clause-fits
admission_of_held_shares-admission-requires-clause-fits c =
    let m = tally c.self.inside in
    let count : length m.workers ≡ c.len-2.result = omega (arith, c.len-2.ensures, c.self.inside.workers.ok.0) in
    subst (λ (rows : List (StreamState Blank)). Fits (held_of_rows c.len-2.result c.self.inside.clock rows))
    (sym c.deref.ensures.value)
    (subst (λ (n : ℕ). Fits (held_of_rows n c.self.inside.clock m.streams)) count (reached_fits m c.self.invariant))
