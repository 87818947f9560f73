use Rattle.std.proofs.Common.{[], length, refl}
use Rattle.serve_work.specs.Live.{waiting_of}
use Rattle.serve_work.proofs.live.opening.set_up.Goals as goal

pub tell-requires : goal.tell-requires
tell-requires g c = record {
  answer = (
    c.requires.waits.0,
    [],
    waiting_of g.W.Sink.contents g.W.Sink.failures (length c.requires.waits.0) c.args.request,
    [],
    c.requires.waits.1,
    refl,
    (refl, c.in-Err.ensures.refused, refl, refl, refl),
  );
}

pub returns-in-Err-clause-answered : goal.returns-in-Err-clause-answered
returns-in-Err-clause-answered g c = λ es waits.
    c.tell.ensures.waits_no_longer es [] (waiting_of g.W.Sink.contents g.W.Sink.failures (length es) c.args.request) [] waits refl
