use Rattle.std.proofs.Common.{arith}
use Rattle.serve_work.proofs.Retiring.{mark_more}
use Rattle.serve_work.proofs.live.retirement.marks_of.Goals as goal

pub loop-place-preserved : goal.loop-place-preserved
loop-place-preserved c =
    let inv = c.loop-place.invariant in
    let ended = c.args.ended.now in
    record {
      marks = mark_more ended.book.desk ended.streams c.loop-place.place c.in-Some.number c.stays.result c.loop-place.marks.items
          c.push_reserved.new.self.items c.in-Some.ensures c.stays.ensures inv.marks c.push_reserved.ensures.items;
      len = omega (arith, inv.len, c.push_reserved.ensures.len);
      room = omega (arith, inv.room, c.push_reserved.ensures.capacity);
    }
