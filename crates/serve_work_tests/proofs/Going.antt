-- What a client needs that begins, or goes on in the next epoch.
use Rattle.std.proofs.Common.{◌≡◌, ◌++◌, ℕ, List, [], Option, subst, sym}
use Rattle.y4m_stream.specs.declared.reader.Phase.TheVariants.{Open}
use Rattle.y4m_stream.specs.Reader.{IsOfHeader, ReaderState}
use Rattle.serve_hub.specs.Seats.{StreamSeatValue, left_by, seat_over}
use Rattle.serve_client.specs.Clients.{ClientStart, IsNewSeat}
use Rattle.serve_client.specs.Rests.{IsRest, IsRestOf, RestValue, Unbegun, reader_in}
use Rattle.serve_client.proofs.Crossing.{new_stream_is_unbegun, streams_cross}
use Rattle.serve_work.proofs.Intervals.{reopened}

pub record CanGo (seat : StreamSeatValue) (rest : RestValue) : Type 0 where
  pub header : IsOfHeader (reader_in rest).header seat.chain.geometry
  pub rest_of : IsRest seat rest

-- with a new seat and an open reader
pub can_begin : (seat : StreamSeatValue) (rest : RestValue) (reader : ReaderState) (before : Option (List ℕ)) (failures : ℕ)
    → rest ≡ Unbegun reader before failures → IsOfHeader reader.header seat.chain.geometry → IsNewSeat seat → reader.phase ≡ Open
    → CanGo seat rest
can_begin seat rest reader before failures same header fresh is_open =
    let start : ClientStart = record { seat = seat; reader = reader; before = before; failures = failures } in
    record {
      header = subst (λ (r : RestValue). IsOfHeader (reader_in r).header seat.chain.geometry) (sym same) header;
      rest_of = (start, [], subst (IsRestOf start [] seat) (sym same) (new_stream_is_unbegun start fresh is_open));
    }

-- with the seat of the next epoch
pub can_go_on : (limit : ℕ) (old new : StreamSeatValue) (rest : RestValue) → new ≡ seat_over limit (left_by old)
    → IsRest old rest → IsOfHeader (reader_in rest).header old.chain.geometry → CanGo new rest
can_go_on limit old new rest same at header =
    let next : StreamSeatValue = seat_over limit (left_by old) in
    record {
      header = subst (λ (s : StreamSeatValue). IsOfHeader (reader_in rest).header s.chain.geometry) (sym same) header;
      rest_of = subst (λ (s : StreamSeatValue). IsRest s rest) (sym same)
          (at.0, at.1 ++ old.calls.list, (streams_cross at.0 at.1 old next (reopened limit old)).0 rest at.2);
    }
