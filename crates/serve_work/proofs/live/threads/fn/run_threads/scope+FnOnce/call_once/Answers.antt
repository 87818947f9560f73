use denote.Param.Send.{sendable}
use Rattle.serve_work.proofs.live.threads.fn.run_threads.scope+FnOnce.call_once.Goals as goal

pub scope-requires : goal.scope-requires
scope-requires g c = search (sendable, c.requires) depth 30
