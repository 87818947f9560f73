-- What is left to do of a stream, as the code keeps it.
use Rattle.std.specs.Prelude.{ℕ, List, Option}
use Rattle.serve_client.specs.declared.begun.State.{State}
use Rattle.serve_client.specs.declared.begun.State.TheVariants as states
use Rattle.serve_client.specs.Rests.{Begun, RestValue, Unbegun}

abbrev pub rest_of : {R W : Type 0} (contents : W → Option (List ℕ)) (failures : W → ℕ) → State R W
    → RestValue
rest_of contents failures (states.Unbegun reader writer) = Unbegun reader (contents writer) (failures writer)
rest_of contents failures (states.Begun begun) = Begun begun
