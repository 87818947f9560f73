use Rattle.std.proofs.Common.{map, subst}
use Rattle.filters.specs.ChainImage.{FrameValue}
use Rattle.serve_core.specs.Events.{Start, told}
use Rattle.serve_core.specs.Frames.{measures, is_image}
use Rattle.serve_core.specs.Leads.{Leads}
use Rattle.serve_core.specs.Seen.{heard, seen}
use Rattle.serve_core.specs.States.{State}
use Rattle.serve_core.proofs.Transcripts.Runs.{is_run}
use Rattle.serve_core.proofs.machine.run.Goals as goal

pub returns-in-Ok-run_on : goal.returns-in-Ok-run_on
returns-in-Ok-run_on c =
    let events = c.args.events.items in
    let replies = c.in-Ok-run_on.replies.items in
    let last = c.run_on.new.self in
    is_run c.args.setup events replies last c.recall_limits.ensures.0 c.in-Ok-run_on.ensures.count
    (subst (λ (m : State FrameValue). Leads measures is_image m (told Start (map seen events) (map heard replies)) last)
    c.in-Ok.ensures c.in-Ok-run_on.ensures.leads)
