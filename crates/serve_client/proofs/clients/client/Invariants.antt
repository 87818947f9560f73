use Rattle.std.proofs.Common.{List}
use Rattle.y4m_stream.specs.Reader.{IsOfHeader}
use Rattle.serve_hub.specs.declared.entry.Act.{Act}
use Rattle.serve_client.specs.Clients.{ClientStart}
use Rattle.serve_client.specs.ClientInside.{KeepsAllowed, KeepsFault, KeepsMoments}
use Rattle.serve_client.specs.Rests.{IsRest, IsRestOf, reader_in, rest_stop}
use Rattle.serve_client.proofs.clients.client.Given as goal

-- what is left to do of the stream is left to do from here
abbrev pub invariant-loop : goal.invariant-loop
invariant-loop g l = record {
  header : IsOfHeader (reader_in l.rest).header l.seat.chain.geometry;
  is_rest : IsRest l.seat l.rest;
  stands : (start : ClientStart) (past : List Act) → IsRestOf start past l.fn.seat l.fn.rest → IsRestOf start past l.seat l.rest;
  moments : KeepsMoments (g.K.Clock.gives l.fn.clock) l.fn.seat l.seat;
  stop : KeepsAllowed (g.K.Clock.gives l.fn.clock) (rest_stop l.fn.rest) (rest_stop l.rest);
  fault : KeepsFault (rest_stop l.fn.rest) (rest_stop l.rest);
}
