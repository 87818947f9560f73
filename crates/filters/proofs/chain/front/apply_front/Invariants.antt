use Rattle.std.proofs.Common.{◌≡◌, ◌≤◌, take}
use Rattle.frame_view.specs.Frame.{line_of}
use Rattle.filters.specs.ChainImage.{IsImageByAll, value_of}
use Rattle.filters.specs.Front.{front_of}
use Rattle.filters.proofs.chain.front.apply_front.Given as goal

abbrev pub invariant-loop-op : goal.invariant-loop-op
invariant-loop-op l = record {
  geometry : l.frame.geometry ≡ l.fn.frame.geometry;
  line : line_of l.frame ≡ line_of l.fn.frame;
  tables : l.op-index ≤ front_of l.chain;
  by_all : IsImageByAll (take l.op-index l.chain.ops) (value_of l.fn.frame) (value_of l.frame);
}
