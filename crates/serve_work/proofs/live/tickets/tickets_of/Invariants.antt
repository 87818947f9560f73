use Rattle.std.proofs.Common.{◌≡◌, None, drop, replicate}
use Rattle.serve_work.specs.LiveInside.{with_tickets}
use Rattle.serve_work.proofs.live.tickets.tickets_of.Given as goal

-- the tickets so far, with those that are left, are all
abbrev pub invariant-loop-place : goal.invariant-loop-place
invariant-loop-place g l = record {
  tickets : with_tickets (drop l.place l.fn.ended.streams) (drop l.place l.fn.guests.items) l.tickets
      ≡ with_tickets l.fn.ended.streams l.fn.guests.items (replicate 64 None);
}
