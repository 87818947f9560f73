use Rattle.std.proofs.Common.{◌≡◌, List, ◌∷◌, [], ◌++◌, arith, length, length-append, map, ◌∙◌, ap, subst}
use Rattle.std.proofs.IntoIterSteps.{All-taken}
use Rattle.serve_core.specs.declared.event.Event as code
use Rattle.serve_core.specs.Events.{Start, told}
use Rattle.serve_core.specs.Frames.{measures, is_image}
use Rattle.serve_core.specs.Leads.{Leads}
use Rattle.serve_core.specs.Seen.{heard, seen}
use Rattle.serve_core.proofs.Transcripts.Runs.{turn}
use Rattle.serve_core.proofs.machine.Machine.run_on.Goals as goal

pub loop-event-preserved : goal.loop-event-preserved
loop-event-preserved c =
    let before = c.loop-event in
    let reply = c.step-reply in
    let steps = c.in-Some.ensures.steps in
    let pushed : c.push_reserved.new.self.items ≡ before.replies.items ++ reply.result ∷ [] = c.push_reserved.ensures.items in
    record {
      count = rw (pushed, length-append, length-append) (omega (arith, before.invariant.count));
      left = omega (arith, before.invariant.left, ap length steps.0, steps.1);
      room = omega (arith, before.invariant.room, steps.1, c.push_reserved.ensures.len, c.push_reserved.ensures.capacity);
      leads = turn c.args.self.now before.yielded c.in-Some.event before.replies.items c.push_reserved.new.self.items
          reply.result before.self reply.new.self before.invariant.count pushed before.invariant.leads
          reply.ensures.allowed reply.ensures.state;
    }

pub returns-clause-count : goal.returns-clause-count
returns-clause-count c =
    let all : c.loop-event.yielded ≡ c.args.events.items =
    All-taken c.into_iter-event-iterator.result c.loop-event.yielded
    (c.next.new.self, (c.loop-event.event-iterator, c.loop-event.yielded_by, c.in-None.ensures.steps))
    ∙ c.into_iter-event-iterator.ensures.into_iter_gives.0 in
    c.loop-event.invariant.count ∙ ap length all

pub returns-clause-leads : goal.returns-clause-leads
returns-clause-leads c =
    let all : c.loop-event.yielded ≡ c.args.events.items =
    All-taken c.into_iter-event-iterator.result c.loop-event.yielded
    (c.next.new.self, (c.loop-event.event-iterator, c.loop-event.yielded_by, c.in-None.ensures.steps))
    ∙ c.into_iter-event-iterator.ensures.into_iter_gives.0 in
    subst (λ (es : List code.Event). Leads measures is_image c.args.self.now
    (told Start (map seen es) (map heard c.loop-event.replies.items)) c.loop-event.self) all
    c.loop-event.invariant.leads
