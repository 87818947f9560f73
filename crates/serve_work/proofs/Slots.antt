-- What the threads of a session share of the workers' seats, and of whether they begin.
use denote.Builtin.{bool}
use denote.RattleType.{RattleType}
use denote.Param.Send.{IsSend, IsSync, sendable}
use Rattle.std.specs.contracts.option.Option.{the_row as option_of}
use Rattle.std.specs.contracts.sync.Mutex.{the_row as mutex_of}
use Rattle.std.proofs.Crossing.{crosses}
use Rattle.std.specs.declared.sync.ledger.Ledger as ledger
use Rattle.serve_hub.specs.declared.epoch.Epoch.{Ghosts}
use Rattle.serve_hub.specs.contracts.work_seat.WorkSeat as WorkSeat
use Rattle.serve_hub.proofs.Sharing.{work_seat_send}

place_send : (L : RattleType) (e : Ghosts L.Denot) (l : ledger.Ghosts L.Denot) → IsSend L → IsSend (option_of (WorkSeat.the_row L e l))
place_send L e l s = search (sendable, work_seat_send) depth 20

pub slot_sync : (L : RattleType) (e : Ghosts L.Denot) (l : ledger.Ghosts L.Denot) → IsSend L
    → IsSync (mutex_of (option_of (WorkSeat.the_row L e l)))
slot_sync L e l s = search (sendable, crosses, place_send) depth 20

pub start_sync : IsSync (mutex_of bool)
start_sync = search (sendable, crosses) depth 20
