use Rattle.std.proofs.Common.{◌-◌, ◌*◌, ◌/◌, ◌≡◌, ◌≤◌, ◌<◌, ◌^◌, length, drop}
use Rattle.edf_pool.proofs.Winners.{AreWinnersBut}
use Rattle.edf_pool.proofs.pool.set_leaf.Given as goal

abbrev pub invariant-loop-i : goal.invariant-loop-i
invariant-loop-i l = record {
  size : length l.nodes ≡ 128;
  some : 1 ≤ l.i;
  within : l.i < 128;
  since : l.initial.compares.made ≤ l.compares.made;
  few : 2 ^ (l.compares.made - l.initial.compares.made) * l.i ≤ 127;
  leaves : drop 64 l.nodes ≡ drop 64 l.initial.nodes;
  winners : AreWinnersBut l.nodes (l.i / 2);
}

abbrev pub decreases-loop-i : goal.decreases-loop-i
decreases-loop-i l = l.i
