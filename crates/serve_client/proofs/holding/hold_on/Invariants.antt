use Rattle.std.proofs.Common.{◌≡◌, List, false}
use Rattle.y4m_stream.specs.Writer.{WriterState}
use Rattle.y4m_stream.specs.declared.reader.Phase.TheVariants.{Open}
use Rattle.serve_hub.specs.declared.entry.Act.{Act}
use Rattle.serve_client.specs.ClientInside.{HasPassed, IsCounted, KeepsMoments, TalliesSeat}
use Rattle.serve_client.proofs.holding.hold_on.Given as goal

abbrev pub invariant-loop : goal.invariant-loop
invariant-loop g l = record {
  passed : (past : List Act) (writer : WriterState) → IsCounted past l.initial.seat
      → HasPassed l.initial.reader l.reader l.initial.seat l.seat writer writer;
  header : l.reader.header ≡ l.initial.reader.header;
  is_open : l.reader.phase ≡ Open;
  is_unclosed : l.seat.is_closed ≡ false;
  tally : TalliesSeat l.initial.seat l.seat;
  moments : KeepsMoments (g.K.Clock.gives l.fn.post.clock.now) l.initial.seat l.seat;
}
