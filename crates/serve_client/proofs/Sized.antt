-- The header and the chain of a stream stay, so its frames are those of its chain.
use Rattle.std.proofs.Common.{◌≡◌, List}
use Rattle.std.proofs.Common.{ap, subst}
use Rattle.y4m_stream.specs.Reader.{IsOfHeader, ReaderState}
use Rattle.serve_hub.specs.declared.entry.Act.{Act}
use Rattle.serve_hub.specs.Seats.{StreamSeatValue}
use Rattle.serve_client.specs.Clients.{ClientStart}
use Rattle.serve_client.specs.Rests.{Begun, IsRestOf, RestValue, Unbegun, reader_in}
use Rattle.serve_client.proofs.Staying.{same_chain}

-- a stream's chain and its reader's header stay
rest_header : (start : ClientStart) (past : List Act) (seat : StreamSeatValue) (rest : RestValue) → IsRestOf start past seat rest
    → (reader_in rest).header ≡ start.reader.header
rest_header start past seat (Unbegun reader contents failures) a = ap (λ (r : ReaderState). r.header) a.same_reader
rest_header start past seat (Begun begun) a = a.same_header

rest_chain : (start : ClientStart) (past : List Act) (seat : StreamSeatValue) (rest : RestValue) → IsRestOf start past seat rest
    → seat.chain ≡ start.seat.chain
rest_chain start past seat (Unbegun reader contents failures) a = same_chain start.seat seat a.stays.spec
rest_chain start past seat (Begun begun) a = same_chain start.seat seat a.tally.spec

-- what is left to do of a stream whose frames are those of its chain
pub rest_sized : (start : ClientStart) (past : List Act) (seat : StreamSeatValue) (rest : RestValue) → IsRestOf start past seat rest
    → IsOfHeader start.reader.header start.seat.chain.geometry → IsOfHeader (reader_in rest).header seat.chain.geometry
rest_sized start past seat rest a is = rw (rest_header start past seat rest a, rest_chain start past seat rest a) is

pub header_stays : (start : ClientStart) (past past' : List Act) (seat seat' : StreamSeatValue) (rest rest' : RestValue)
    → IsRestOf start past seat rest
    → IsRestOf start past' seat' rest' → IsOfHeader (reader_in rest).header seat.chain.geometry
    → IsOfHeader (reader_in rest').header seat'.chain.geometry
header_stays start past past' seat seat' rest rest' a b is =
    rest_sized start past' seat' rest' b
    (subst (λ h. IsOfHeader h start.seat.chain.geometry) (rest_header start past seat rest a)
    (subst (λ chain. IsOfHeader (reader_in rest).header chain.geometry) (rest_chain start past seat rest a) is))
