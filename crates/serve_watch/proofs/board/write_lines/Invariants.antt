use Rattle.std.proofs.Common.{take}
use Rattle.std.specs.Io.KnownBytes.{Appends}
use Rattle.serve_watch.specs.Board.{lines_drawn}
use Rattle.serve_watch.proofs.board.write_lines.Given as goal

abbrev pub invariant-loop-stream : goal.invariant-loop-stream
invariant-loop-stream g l =
    Appends (g.W.Write.contents l.initial.output) (g.W.Write.contents l.output)
    (lines_drawn (take l.stream-index l.streams))
