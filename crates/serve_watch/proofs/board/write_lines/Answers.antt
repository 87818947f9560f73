use Rattle.std.proofs.Common.{List, ℕ, sym, subst}
use Rattle.std.proofs.KnownBytes.{Appends-trans}
use Rattle.std.specs.Io.KnownBytes.{Appends}
use Rattle.serve_watch.specs.Board.{line_drawn}
use Rattle.serve_watch.proofs.Texts.{text_more}
use Rattle.serve_watch.proofs.board.write_lines.Goals as goal

pub loop-stream-preserved : goal.loop-stream-preserved
loop-stream-preserved g c =
    let contents = g.W.Write.contents in
    subst (λ (text : List ℕ). Appends (contents c.args.output.now) (contents c.write_line.new.output) text)
    (sym (text_more line_drawn c.args.streams.now c.loop-stream.stream-index _ c.loop-stream-test.true))
    (Appends-trans _ _ _ _ _ c.loop-stream.invariant c.in_ok-write_line.ensures)
