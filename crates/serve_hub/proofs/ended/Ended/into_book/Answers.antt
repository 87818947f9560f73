use Rattle.std.proofs.Common.{◌+◌, ◌≤◌, length, sym, subst, arith}
use Rattle.serve_hub.specs.Ends.{EndedValue}
use Rattle.serve_hub.proofs.Opened.{few_reserved}
use Rattle.serve_hub.proofs.ended.Ended.into_book.Goals as goal

pub reopen-book-requires-clause-fits : goal.reopen-book-requires-clause-fits
reopen-book-requires-clause-fits c =
    let few = few_reserved c.self.inside.book.desk c.self.invariant.free in
    let room = subst (λ (e : EndedValue). length e.streams + 2 ≤ c.args.limit) (sym c.self.view_is) c.requires.limit.closes in
    omega (arith, few, c.self.invariant.each_stream, room)
