use Rattle.std.proofs.Common.{arith}
use Rattle.serve_hub.proofs.book.Book.offer_refusal.Goals as goal

pub returns-in-Some : goal.returns-in-Some
returns-in-Some c = rw (← c.self.view_is) c.in-Some.ensures.answer

pub returns-then-room-lt1 : goal.returns-then-room-lt1
returns-then-room-lt1 c = (rw (← c.self.view_is) c.in_default.ensures.answer, omega (arith, c.room.ensures, c.if-room-lt1.true))

pub returns : goal.returns
returns c = (rw (← c.self.view_is) c.in_default.ensures.answer, omega (arith, c.room.ensures, c.if-room-lt1.false))
