use Rattle.std.proofs.Common.{Option, None, Result, subst, sym}
use Rattle.std.specs.Prelude.{ℕ}
use Rattle.serve_core.specs.declared.refusal.Refusal.{Refusal}
use Rattle.serve_core.specs.Schedule.{IsAdmitAnswer, ScheduleValue}
use Rattle.serve_core.specs.Setup.{StreamSpec}
use Rattle.serve_core.proofs.Calls.Desks.{AnswersAdmission, added, unfed}
use Rattle.serve_core.proofs.desk.Desk.admit_newcomer.Goals as goal
use Rattle.serve_core.proofs.desk.Desk.admit_newcomer.Goals.{in-Ok, in-Err}

-- the stream can be admitted
can : (c : goal.Joined-join) → IsAdmitAnswer c.self.inside.schedule c.args.newcomer None
can c =
    let told : IsAdmitAnswer c.self.inside.schedule c.spec.result.now None =
    subst (λ (answer : Option Refusal). IsAdmitAnswer c.self.inside.schedule c.spec.result.now answer)
    c.in_default.is c.admit_refusal.ensures in
    subst (λ (spec : StreamSpec). IsAdmitAnswer c.self.inside.schedule spec None) c.spec.ensures.spec told

answers : (c : goal.Joined-join) → AnswersAdmission c.args.self.now c.join.new.self c.args.newcomer c.match-join.result
answers c =
    let old = c.self.inside.schedule in
    let new = c.join.new.self in
    let spec = c.args.newcomer in
    let is_answer = λ (r : Result ℕ (Refusal × StreamSpec)). AnswersAdmission old new spec r in
    subst (λ (x : ScheduleValue). AnswersAdmission x new spec c.match-join.result) c.self.view_is (
    elim c.match-join.branch [
      | in-Ok w ↦ subst is_answer (sym w.result-is)
          (added old new spec w.in-Ok.s c.self.invariant (can c) w.in-Ok.ensures.ok)
      | in-Err w ↦ subst is_answer (sym w.result-is)
          (unfed old new spec w.in-Err.newcomer c.self.invariant (can c) w.in-Err.ensures.err)
    ]
    )

pub invariant_of-self : goal.invariant_of-self
invariant_of-self c = (answers c).kept

pub returns-clause-events : goal.returns-clause-events
returns-clause-events c = (answers c).events

pub returns-clause-answer : goal.returns-clause-answer
returns-clause-answer c = (answers c).answer

pub returns-clause-stream : goal.returns-clause-stream
returns-clause-stream c = (answers c).stream

pub returns-clause-refused : goal.returns-clause-refused
returns-clause-refused c = (answers c).refused

pub returns-clause-returns_newcomer : goal.returns-clause-returns_newcomer
returns-clause-returns_newcomer c = (answers c).back
