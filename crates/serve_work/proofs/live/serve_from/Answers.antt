use Rattle.std.proofs.Common.{◌∙◌, [], ◌∷◌, ap, length, refl, sym}
use Rattle.serve_core.specs.Setup.{setup_of}
use Rattle.serve_work.specs.History.{Terms}
use Rattle.serve_work.specs.Live.{Waiting, waiting_of}
use Rattle.serve_work.proofs.live.serve_from.Goals as goal

pub first_epoch-requires-clause-blank : goal.first_epoch-requires-clause-blank
first_epoch-requires-clause-blank g c κs within = record { name_is = refl; parts_are = refl; enough = c.new-blank.ensures; opens = refl }

pub first_epoch-requires-clause-first : goal.first_epoch-requires-clause-first
first_epoch-requires-clause-first g c κs within =
    let w : Waiting = waiting_of g.W.Sink.contents g.W.Sink.failures (length c.requires.waits.0) c.args.request in
    let at = c.requires.waits in
    let stream = c.in-Some.ensures.stream in (
      at.0,
      at.1,
      w,
      rw c.in-Some.ensures.waits at.2,
      record {
        given = refl;
        one_by_one = sym (ap (λ (t : Terms). t.together) c.requires.terms);
        ticket = stream.1;
        is_request = record { header = c.requires.input.header; is_open = c.requires.input.is_open };
        is_setup = c.in-Some.ensures.is_setup;
        setup = stream.0 ∙ ap (λ (t : Terms). setup_of t.workers t.quantum (w.request.spec ∷ [])) c.requires.terms;
        reader = stream.2;
        before = ap g.W.Sink.contents stream.3;
        failures_of = ap g.W.Sink.failures stream.3;
      },
    )

pub first_epoch-requires-clause-limit : goal.first_epoch-requires-clause-limit
first_epoch-requires-clause-limit g c κs within = ap (λ (t : Terms). t.limit) c.requires.terms
