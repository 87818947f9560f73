use Rattle.std.proofs.Common.{◌≡◌, ◌∙◌, [], ap, arith, length}
use Rattle.serve_work.specs.Intervals.{beginning_of}
use Rattle.serve_work.specs.Sessions.{IsInput, unread}
use Rattle.serve_work.specs.SessionInside.{BeginsAgain, held_with}
use Rattle.serve_work.proofs.Intervals.{all_starts, on_ok, streams_held}
use Rattle.serve_work.proofs.SessionStops.{begin_allowed}
use Rattle.serve_work.proofs.SessionTurns.{all_oks, all_unended, same_length, still_unread, unended_limit, zip_length}
use Rattle.serve_work.proofs.Told.{told_first}
use Rattle.serve_work.proofs.session.epochs.begin.Goals as goal

pub epoch-requires-clause-can_begin : goal.epoch-requires-clause-can_begin
epoch-requires-clause-can_begin g c κs within =
    let b = beginning_of g.W.Sink.contents g.W.Sink.failures c.args.setup c.args.limit c.args.inputs.items in
    let gives = g.K.Clock.gives c.args.setting.clock.now in (
      b,
      [],
      record {
        told = told_first gives g.C.Chronicle.terms (g.C.Chronicle.stands c.args.chronicle.now) c.args.setup c.args.limit b.starts
            c.requires.terms c.requires.is_setup c.requires.untold;
        later = λ first. absurd (cc);
        can = c.in_ok-opening.ensures.can_begin;
      },
    )

pub returns-clause-between : goal.returns-clause-between
returns-clause-between g c =
    let b = beginning_of g.W.Sink.contents g.W.Sink.failures c.args.setup c.args.limit c.args.inputs.items in
    let gives = g.K.Clock.gives c.args.setting.clock.now in
    all_oks _ _ c.epoch.result
    (λ now later. later.between b []
    (record {
      told = told_first gives g.C.Chronicle.terms (g.C.Chronicle.stands c.args.chronicle.now) c.args.setup c.args.limit b.starts
          c.requires.terms c.requires.is_setup c.requires.untold;
      later = λ first. absurd (cc);
      can = c.in_ok-opening.ensures.can_begin;
    })) c.epoch.ensures.later

pub returns-clause-limit : goal.returns-clause-limit
returns-clause-limit g c = on_ok c.epoch.result _ c.in_ok-opening.ensures.limit

pub returns-clause-bad_limit : goal.returns-clause-bad_limit
returns-clause-bad_limit g c =
    all_unended _ _ c.epoch.result (λ e p. (
      λ is limit. unended_limit _ _ e p is,
      λ not. absurd (not c.in_ok-opening.ensures.limit),
    )) c.epoch.ensures.unended

pub returns-clause-returns_inputs : goal.returns-clause-returns_inputs
returns-clause-returns_inputs g c =
    let sink = g.W.Sink in
    let b = beginning_of sink.contents sink.failures c.args.setup c.args.limit c.args.inputs.items in
    let seats = c.in_ok-opening.opening.opened.1.items in
    let streams = c.in_ok-opening.opening.streams.items in
    let inputs = c.args.inputs.items in
    let all : length (held_with seats streams) ≡ length streams = omega (
      arith,
      zip_length (BeginsAgain []) b.starts (held_with seats streams) c.in_ok-opening.ensures.can_begin.stand,
      all_starts sink.contents sink.failures c.args.limit 0 c.args.setup.streams inputs c.requires.inputs,
      zip_length IsInput c.args.setup.streams inputs c.requires.inputs,
      ap length c.in_ok-opening.ensures.unread,
      same_length (unread sink.contents sink.failures) inputs,
    ) in
    all_unended _ _ c.epoch.result (λ e p. still_unread (held_with seats streams) sink.contents sink.failures inputs e
    (streams_held seats streams all ∙ c.in_ok-opening.ensures.unread) p) c.epoch.ensures.unended

pub returns-clause-stops : goal.returns-clause-stops
returns-clause-stops g c =
    let allowed = begin_allowed (g.K.Clock.gives c.args.setting.clock.now) g.W.Sink.contents g.W.Sink.failures
    c.in_ok-opening.opening.streams.items c.args.inputs.items c.in_ok-opening.ensures.unread in
    all_oks _ _ c.epoch.result (λ now later. later.stops allowed) c.epoch.ensures.later
