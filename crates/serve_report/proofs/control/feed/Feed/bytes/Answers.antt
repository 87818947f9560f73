use Rattle.std.proofs.Common.{ℕ, arith}
use Rattle.std.proofs.lemmas.List.{length-drop, length-take}
use Rattle.serve_report.proofs.control.feed.Feed.bytes.Goals as goal

pub returns-clause-most : goal.returns-clause-most
returns-clause-most g c = rw (← c.self.view_is) (omega (arith, length-drop {A = ℕ}, length-take {A = ℕ}))
