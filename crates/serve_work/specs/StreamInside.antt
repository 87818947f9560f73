-- A stream of a session, as the code keeps it.
use Rattle.serve_client.specs.Streams.{Over, StreamValue, Waiting}
use Rattle.serve_work.specs.declared.session.turn.State.{State}
use Rattle.serve_work.specs.declared.session.turn.State.TheVariants as states

abbrev pub stream_of : {R W : Type 0} → State R W → StreamValue
stream_of (states.Waiting rest) = Waiting rest
stream_of (states.Over served) = Over served.outcome
