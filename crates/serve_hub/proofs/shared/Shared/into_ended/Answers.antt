use Rattle.std.proofs.Common.{length, sym, ap, subst, arith}
use Rattle.std.proofs.lemmas.List.{length-map}
use Rattle.serve_hub.specs.Books.{IsBook}
use Rattle.serve_hub.specs.Ends.{AreFree}
use Rattle.serve_hub.specs.Seats.{SharedValue, left_by}
use Rattle.serve_hub.proofs.Histories.{few_collected, few_here, reached_now}
use Rattle.serve_hub.proofs.shared.Shared.into_ended.Goals as goal

pub merge_streams-requires-clause-collected_in_range : goal.merge_streams-requires-clause-collected_in_range
merge_streams-requires-clause-collected_in_range g c =
    few_collected c.args.self.book c.args.streams.items c.requires.is_book c.requires.agree.kept

-- there is room for what the seats of all 64 streams leave
pub merge_streams-requires-clause-room : goal.merge_streams-requires-clause-room
merge_streams-requires-clause-room g c =
    let b = c.self.inside.book in
    let is = subst (λ (s : SharedValue). IsBook s.book) (sym c.self.view_is) c.requires.is_book in
    omega (
      arith,
      c.args.streams.ok.0,
      c.requires.agree.there.0,
      c.requires.agree.all,
      ap (λ (s : SharedValue). length s.book.desk.streams) c.self.view_is,
      (few_here b.desk (reached_now _ b _ is c.self.invariant.4)).0,
      c.self.invariant.6,
    )

pub new-requires-clause-free : goal.new-requires-clause-free
new-requires-clause-free g c =
    subst (λ (s : SharedValue). AreFree s.book.desk.workers) (sym c.self.view_is) c.requires.agree.free

pub new-requires-clause-each_stream : goal.new-requires-clause-each_stream
new-requires-clause-each_stream g c =
    omega (
      arith,
      ap length c.merge_streams.ensures.left,
      length-map c.args.streams.items left_by,
      c.requires.agree.there.0,
      c.requires.agree.all,
      ap (λ (s : SharedValue). length s.book.desk.streams) c.self.view_is,
    )

pub new-requires-clause-reached : goal.new-requires-clause-reached
new-requires-clause-reached g c =
    let is = subst (λ (s : SharedValue). IsBook s.book) (sym c.self.view_is) c.requires.is_book in
    reached_now _ c.self.inside.book _ is c.self.invariant.4
