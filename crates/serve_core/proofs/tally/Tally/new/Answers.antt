use Rattle.std.proofs.Common.{◌≡◌, ◌∙◌, None, map, ap, replicate, rules}
use Rattle.std.proofs.IntoIterSteps.{All-taken}
use Rattle.serve_core.specs.Bare.{Blank}
use Rattle.serve_core.specs.Leads.{opening_state}
use Rattle.serve_core.specs.Setup.{Setup, setup_of}
use Rattle.serve_core.specs.States.{new_stream}
use Rattle.serve_core.proofs.Calls.Rows.{opened_is, reached_opening}
use Rattle.serve_core.proofs.tally.Tally.new.Goals as goal

pub invariant_of-result : goal.invariant_of-result
invariant_of-result c =
    let specs = c.setup.inside.streams.items in
    let s : Setup = setup_of c.setup.inside.workers c.setup.inside.quantum specs in
    let all : c.loop-spec.yielded ≡ specs =
    All-taken c.into_iter-spec-iterator.result c.loop-spec.yielded
    (c.next.new.self, (c.loop-spec.spec-iterator, c.loop-spec.yielded_by, c.in-None.ensures.steps))
    ∙ c.into_iter-spec-iterator.ensures.into_iter_gives.0 in
    let rows : c.loop-spec.rows.items ≡ map new_stream specs = c.loop-spec.invariant ∙ ap (map new_stream) all in
    let workers : c.in_ok-workers.workers.items ≡ replicate c.setup.inside.workers None = search rules in
    reached_opening s _ c.setup.invariant
    (opened_is s c.loop-spec.rows.items c.in_ok-workers.workers.items rows workers)

pub returns : goal.returns
returns c =
    let specs = c.setup.inside.streams.items in
    let s : Setup = setup_of c.setup.inside.workers c.setup.inside.quantum specs in
    let all : c.loop-spec.yielded ≡ specs =
    All-taken c.into_iter-spec-iterator.result c.loop-spec.yielded
    (c.next.new.self, (c.loop-spec.spec-iterator, c.loop-spec.yielded_by, c.in-None.ensures.steps))
    ∙ c.into_iter-spec-iterator.ensures.into_iter_gives.0 in
    let rows : c.loop-spec.rows.items ≡ map new_stream specs = c.loop-spec.invariant ∙ ap (map new_stream) all in
    let workers : c.in_ok-workers.workers.items ≡ replicate c.setup.inside.workers None = search rules in
    opened_is s c.loop-spec.rows.items c.in_ok-workers.workers.items rows workers
    ∙ ap (opening_state Blank Blank) c.setup.view_is
