use Rattle.std.proofs.Common.{◌≤◌, ◌∷◌, [], ◌++◌, ◌∙◌, List, length, map, sym, ap, arith}
use Rattle.std.proofs.lemmas.List.{length-append}
use Rattle.std.specs.Vec.Iter.{into_iter_items}
use Rattle.y4m_header.specs.declared.limits.TheConstants.{MOST_FRAMES}
use Rattle.serve_hub.specs.Seats.{StreamRest, StreamSeatValue, collected_by, left_by}
use Rattle.serve_hub.proofs.Moving.{All-behind, one_moved, sum_more}
use Rattle.serve_hub.proofs.shared.merge_streams.Goals as goal

pub loop-seat-preserved : goal.loop-seat-preserved
loop-seat-preserved g c =
    let inv = c.loop-seat.invariant in
    let steps = c.in-Some.ensures.steps in
    let seat = c.in-Some.seat in
    let rests = c.loop-seat.rests.items in
    let left = into_iter_items c.next.new.self in
    record {
      parts = omega (
        arith,
        inv.parts,
        c.merge.ensures.parts,
        c.leave-share.ensures.parts,
        length-append c.loop-seat.yielded (seat ∷ []),
      );
      amount = omega (
        arith,
        inv.amount,
        c.merge.ensures.amount,
        c.leave-share.ensures.amount,
        sum_more (λ (s : StreamSeatValue). length s.calls.list) c.loop-seat.yielded seat,
      );
      rests = ap (λ (rs : List StreamRest). rs ++ map left_by left)
          (c.push_reserved.ensures.items ∙ ap (λ (r : StreamRest). rests ++ r ∷ []) c.leave-share.ensures.rest)
          ∙ one_moved left_by rests seat left
          ∙ ap (λ (ss : List StreamSeatValue). rests ++ map left_by ss) (sym steps.0)
          ∙ inv.rests;
      left = omega (arith, inv.left, ap length steps.0, steps.1);
      room = omega (arith, inv.room, steps.1, c.push_reserved.ensures.len, c.push_reserved.ensures.capacity);
      collected_in_range = All-behind (λ s. collected_by s ≤ MOST_FRAMES) _ left seat steps.0 inv.collected_in_range;
    }
