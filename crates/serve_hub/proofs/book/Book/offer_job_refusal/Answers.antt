use Rattle.std.proofs.Common.{sym, ◌∙◌, ap, arith}
use Rattle.serve_core.specs.Desk.{job_refusal}
use Rattle.serve_hub.specs.Books.{BookValue}
use Rattle.serve_hub.proofs.book.Book.offer_job_refusal.Goals as goal

pub returns-in-Some : goal.returns-in-Some
returns-in-Some c = ap (λ (b : BookValue). job_refusal b.desk c.args.s c.args.at) (sym c.self.view_is) ∙ sym c.in-Some.ensures

pub returns-then-room-lt1 : goal.returns-then-room-lt1
returns-then-room-lt1 c = (
  ap (λ (b : BookValue). job_refusal b.desk c.args.s c.args.at) (sym c.self.view_is) ∙ sym c.in_default.ensures,
  omega (arith, c.room.ensures, c.if-room-lt1.true),
)

pub returns : goal.returns
returns c = (
  ap (λ (b : BookValue). job_refusal b.desk c.args.s c.args.at) (sym c.self.view_is) ∙ sym c.in_default.ensures,
  omega (arith, c.room.ensures, c.if-room-lt1.false),
)
