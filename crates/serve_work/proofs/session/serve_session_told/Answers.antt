use Rattle.std.proofs.Common.{[], refl, subst, sym}
use Rattle.serve_work.specs.History.{IsHistory, Terms, epoch_of}
use Rattle.serve_work.specs.Intervals.{beginning_of}
use Rattle.serve_work.proofs.Intervals.{from_setup}
use Rattle.serve_work.proofs.SessionCharges.{are_served}
use Rattle.serve_work.proofs.SessionStops.{stops_told}
use Rattle.serve_work.proofs.session.serve_session_told.Goals as goal

pub begin-requires-clause-blank : goal.begin-requires-clause-blank
begin-requires-clause-blank g c κs within = record { name_is = refl; parts_are = refl; enough = c.new-blank.ensures; opens = refl }

pub go_on-requires-clause-between : goal.go_on-requires-clause-between
go_on-requires-clause-between g c κs within = (
  beginning_of g.W.Sink.contents g.W.Sink.failures c.args.setup c.args.limit c.args.inputs.items,
  c.in_ok-interval.ensures.between,
)

pub report-requires : goal.report-requires
report-requires g c =
    let b = beginning_of g.W.Sink.contents g.W.Sink.failures c.args.setup c.args.limit c.args.inputs.items in
    let last = c.in-Ok.ensures.later.between b c.in_ok-interval.ensures.between in
    record { between = (b, last.0, last.2) }

pub returns-in-Ok-clause-streams : goal.returns-in-Ok-clause-streams
returns-in-Ok-clause-streams g c =
    let b = beginning_of g.W.Sink.contents g.W.Sink.failures c.args.setup c.args.limit c.args.inputs.items in
    let last = c.in-Ok.ensures.later.between b c.in_ok-interval.ensures.between in
    are_served _ _ _ b.starts _ (c.report.ensures.served b last.0 last.2)

pub returns-in-Ok-clause-session : goal.returns-in-Ok-clause-session
returns-in-Ok-clause-session g c =
    let gives = g.K.Clock.gives c.args.clock.now in
    let b = beginning_of g.W.Sink.contents g.W.Sink.failures c.args.setup c.args.limit c.args.inputs.items in
    let last = c.in-Ok.ensures.later.between b c.in_ok-interval.ensures.between in
    let now = c.in-Ok.interval in (
      last.0,
      last.1.told,
      record {
        is_cut = now.waits;
        history = subst (λ (t : Terms). IsHistory t gives last.0) (sym c.requires.terms) last.1.history;
        in_turn = last.2.in_turn;
        at_end = last.1.at_end;
        latest = epoch_of now.ended [];
        before = last.2.before;
        epochs_are = last.2.latest;
        leads = from_setup c.args.setup _ _ last.2.past;
        streams = c.report.ensures.served b last.0 last.2;
        moments = last.1.moments;
        stops = stops_told gives now.streams.items c.report.result.items
            (c.in-Ok.ensures.later.stops c.in_ok-interval.ensures.stops) c.report.ensures.stops;
      },
    )

pub returns-in-Err-clause-bad_limit : goal.returns-in-Err-clause-bad_limit
returns-in-Err-clause-bad_limit g c = (λ is limit. absurd (cc), λ not. absurd (not c.in_ok-interval.ensures.limit))
