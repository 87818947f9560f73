use Rattle.std.proofs.Common.{◌≡◌, take}
use Rattle.frame_view.specs.Frame.{line_of}
use Rattle.filters.specs.Chain.{format_of, format_at}
use Rattle.filters.specs.ChainImage.{IsImageByAll, value_of}
use Rattle.filters.proofs.chain.Chain.apply.Given as goal

abbrev pub invariant-loop-i : goal.invariant-loop-i
invariant-loop-i l = record {
  by_all : IsImageByAll (take l.i l.self.ops) (value_of l.source) (value_of l.image);
  line : line_of l.image ≡ line_of l.source;
  format : format_of l.image.geometry ≡ format_at l.self l.i;
}
