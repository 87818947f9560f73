use Rattle.std.proofs.Common.{rules}
use Rattle.serve_work.proofs.session.room.Room.new.Goals as goal

pub returns : goal.returns
returns g c = record { no_turns = search rules; turns = search rules; places = search rules }
