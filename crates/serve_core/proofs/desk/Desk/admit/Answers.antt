use Rattle.std.proofs.Common.{Option, None, Result, subst, sym}
use Rattle.std.specs.Prelude.{ℕ}
use Rattle.serve_core.specs.declared.refusal.Refusal.{Refusal}
use Rattle.serve_core.specs.Schedule.{IsAdmitAnswer, ScheduleValue}
use Rattle.serve_core.specs.Setup.{StreamSpec}
use Rattle.serve_core.proofs.Calls.Desks.{AnswersAdmission, added, unfed}
use Rattle.serve_core.proofs.desk.Desk.admit.Goals as goal
use Rattle.serve_core.proofs.desk.Desk.admit.Goals.{in-Ok, in-Err}

-- the stream can be admitted
can : (c : goal.Joined-admit) → IsAdmitAnswer c.self.inside.schedule c.args.spec None
can c =
    subst (λ (answer : Option Refusal). IsAdmitAnswer c.self.inside.schedule c.args.spec answer) c.in_default.is
    c.admit_refusal.ensures

answers : (c : goal.Joined-admit) → AnswersAdmission c.args.self.now c.admit.new.self c.args.spec c.match-admit.result
answers c =
    let old = c.self.inside.schedule in
    let new = c.admit.new.self in
    let spec = c.args.spec in
    let is_answer = λ (r : Result ℕ (Refusal × StreamSpec)). AnswersAdmission old new spec r in
    subst (λ (x : ScheduleValue). AnswersAdmission x new spec c.match-admit.result) c.self.view_is (
    elim c.match-admit.branch [
      | in-Ok w ↦ subst is_answer (sym w.result-is)
          (added old new spec w.in-Ok.s c.self.invariant (can c) w.in-Ok.ensures.ok)
      | in-Err w ↦ subst is_answer (sym w.result-is)
          (unfed old new spec w.in-Err.spec c.self.invariant (can c) w.in-Err.ensures.err)
    ]
    )

pub invariant_of-self : goal.invariant_of-self
invariant_of-self c = (answers c).kept

pub returns-clause-events : goal.returns-clause-events
returns-clause-events c = (answers c).events
