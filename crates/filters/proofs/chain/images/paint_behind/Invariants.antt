use Rattle.std.proofs.Common.{◌-◌, take, drop, get_or}
use Rattle.row_bands.specs.declared.canvas.Canvas.{Canvas}
use Rattle.row_bands.specs.Canvas.{frame_of}
use Rattle.filters.specs.ChainImage.{IsImageByAll, value_of}
use Rattle.filters.specs.Front.{AreCanvases, KeepLines, front_of}
use Rattle.filters.proofs.chain.images.paint_behind.Given as goal

abbrev pub invariant-loop-i : goal.invariant-loop-i
invariant-loop-i l = record {
  canvases : AreCanvases l.chain l.canvases;
  lines : KeepLines l.fn.canvases l.canvases;
  by_all : (d : Canvas)
      → IsImageByAll (take l.i (drop (front_of l.chain) l.chain.ops)) (value_of l.source)
      (value_of (frame_of (get_or l.canvases (l.i - 1) d)));
}
