use Rattle.std.proofs.Common.{ℕ, ◌≡◌, ◌<◌, false, None, Option, Some, slice_get}
use Rattle.serve_work.specs.declared.live.guests.Guest.{Guest}
use Rattle.serve_work.proofs.live.retirement.are_told_but_marked.Given as goal

-- none is left so far at a place that isn't marked
abbrev pub invariant-loop-place : goal.invariant-loop-place
invariant-loop-place g l = record {
  told : (k : ℕ) (guest : Option (Guest _ _)) → k < l.place → slice_get l.fn.marks k ≡ Some false
      → slice_get l.fn.guests k ≡ Some guest → guest ≡ None;
}
