use Rattle.std.proofs.Common.{arith}
use Rattle.serve_core.specs.Frames.{is_image, measures}
use Rattle.serve_core.proofs.Transcripts.Reached.{few_is}
use Rattle.serve_script.proofs.Arrivals.{stream_named-le}
use Rattle.serve_script.proofs.session.running.Session.number_of.Goals as goal

pub overflow_cast-result : goal.overflow_cast-result
overflow_cast-result c =
    let named = stream_named-le c.self.inside.streams.names c.args.name.now in
    let few = few_is measures is_image c.self.inside.machine c.self.invariant.reached in
    omega (arith, c.number_of.ensures, c.self.invariant.names, named, few.0)
