use Rattle.std.proofs.Common.{List}
use Rattle.serve_work.specs.History.{EpochValue}
use Rattle.serve_work.specs.Live.{Waiting}
use Rattle.serve_work.specs.LiveInside.{AreGuests}
use Rattle.serve_work.proofs.live.go_on.Given as goal

abbrev pub ghosts-next_epoch-L-Ledger : goal.ghosts-next_epoch-L-Ledger
ghosts-next_epoch-L-Ledger g a = record { name = a.blank.name; parts = a.blank.parts }

abbrev pub ghosts-next_epoch-L-Epoch : goal.ghosts-next_epoch-L-Epoch
ghosts-next_epoch-L-Epoch g a = record { opening = a.interval.ended.book.desk }

-- the streams that are left stand between two epochs, and their requests wait
abbrev pub invariant-loop : goal.invariant-loop
invariant-loop g l = record {
  guests : (es : List EpochValue) × (ws : List Waiting) × g.D.Chronicle.stands l.door es ws
      × AreGuests g.D.Chronicle.terms g.D.Chronicle.times es l.interval.ended ws l.interval.guests.items;
}
