use denote.Param.Send.{sendable}
use Rattle.serve_report.proofs.host.fn.Host.try_all.open+FnMut.call_mut.Goals as goal

pub open-requires : goal.open-requires
open-requires g c = (search (sendable, c.requires) depth 20, search (sendable, c.requires) depth 20)
