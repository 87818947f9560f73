-- What threads may share, and what may go from one to another. The search stops within a book, so it is told
-- type by type.
use mathlib.Core.List.{[], ◌∷◌}
use base.Fml.{Lft}
use mir.Syntax.{named}
use denote.Builtin.{u64}
use denote.RattleType.{RattleType}
use denote.Ref.{ShrRef}
use denote.Struct.Tuple.{Tuple}
use denote.Param.Send.{IsSend, IsSync, sendable}
use Rattle.std.proofs.Crossing.{crosses}
use Rattle.std.proofs.sync.ledger.Book.TheSendSync as total
use Rattle.std.proofs.sync.ledger.Share.TheSendSync as share
use Rattle.std.specs.declared.sync.ledger.Ledger as ledger
use Rattle.frame_view.proofs.frame.Frame.TheSendSync as frame
use Rattle.serve_core.proofs.spec.StreamSpec.TheSendSync as spec
use Rattle.serve_core.proofs.desk.Desk.TheSendSync as desk
use Rattle.serve_hub.specs.declared.epoch.Epoch.{Ghosts}
use Rattle.serve_hub.specs.contracts.book.Book as Book
use Rattle.serve_hub.specs.contracts.hub.Hub as Hub
use Rattle.serve_hub.specs.contracts.hub.Hub.TheInside as inside
use Rattle.serve_hub.specs.contracts.owner.EpochOwner as Owner
use Rattle.serve_hub.specs.contracts.shared.Shared as Shared
use Rattle.serve_hub.specs.contracts.work_seat.WorkSeat as WorkSeat
use Rattle.serve_hub.specs.contracts.entry.Entry as Entry
use Rattle.serve_hub.specs.contracts.rest.SeatRest as Rest

entry_send : IsSend Entry.the_row
entry_send = search (sendable, crosses) depth 20

book_send : IsSend Book.the_row
book_send = search (sendable, crosses, entry_send, desk.the_send) depth 20

rest_send : IsSend Rest.the_row
rest_send = search (sendable, crosses, spec.the_send, frame.the_send, frame.the_sync) depth 20

shared_send : (L : RattleType) (e : Ghosts L.Denot) (l : ledger.Ghosts L.Denot) → IsSend L → IsSend (Shared.the_row L e l)
shared_send L e l s = search (sendable, crosses, book_send, rest_send, total.the_send, share.the_send) depth 20

inside_sync : (L : RattleType) (e : Ghosts L.Denot) (l : ledger.Ghosts L.Denot) → IsSend L → IsSync L → IsSync (inside.the_row L e l)
inside_sync L e l s y = search (sendable, crosses, shared_send) depth 20

pub hub_sync : (L : RattleType) (e : Ghosts L.Denot) (l : ledger.Ghosts L.Denot) → IsSend L → IsSync L → IsSync (Hub.the_row L e l)
hub_sync L e l s y = search (sendable, crosses, inside_sync) depth 20

pub owner_sync : (L : RattleType) (e : Ghosts L.Denot) (l : ledger.Ghosts L.Denot) → IsSend L → IsSync L → IsSync (Owner.the_row L e l)
owner_sync L e l s y = search (sendable, crosses, hub_sync) depth 20

pub work_seat_send : (L : RattleType) (e : Ghosts L.Denot) (l : ledger.Ghosts L.Denot) → IsSend L → IsSend (WorkSeat.the_row L e l)
work_seat_send L e l s = search (sendable, crosses, share.the_send) depth 20

-- a closure that has references to a handle, a hub and a number
pub references_sync : (L R : RattleType) (e : Ghosts L.Denot) (l : ledger.Ghosts L.Denot) (κ κ' : Lft) → IsSend L → IsSync L → IsSync R
    → IsSync (Tuple (ShrRef (named 0) κ R ∷ ShrRef (named 0) κ' (Hub.the_row L e l) ∷ ShrRef (named 0) κ u64 ∷ []))
references_sync L R e l κ κ' s y r = search (sendable, hub_sync) depth 20
