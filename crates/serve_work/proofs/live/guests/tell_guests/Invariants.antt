use Rattle.std.proofs.Common.{ℕ, ◌≡◌, ◌<◌, IsTrue, List, None, Option, Some, slice_get}
use Rattle.std.specs.Vec.{vec_len}
use Rattle.serve_work.specs.History.{EpochValue}
use Rattle.serve_work.specs.Live.{Waiting}
use Rattle.serve_work.specs.declared.live.guests.Guest.{Guest}
use Rattle.serve_work.specs.LiveInside.{AreGuests, ended_so}
use Rattle.serve_work.proofs.live.guests.tell_guests.Given as goal

-- those that aren't told still stand with their seats, and their requests wait
abbrev pub invariant-loop-place : goal.invariant-loop-place
invariant-loop-place g l = record {
  guests : (es : List EpochValue) × (ws : List Waiting) × g.D.Chronicle.stands l.door (ended_so l.fn.gives_up es) ws
      × AreGuests g.D.Chronicle.terms g.D.Chronicle.times es l.fn.ended ws l.guests.items;
  len : vec_len l.guests ≡ vec_len l.initial.guests;
  told : IsTrue l.fn.gives_up → (k : ℕ) (guest : Option (Guest _ _)) → k < l.place → slice_get l.guests.items k ≡ Some guest
      → guest ≡ None;
}
