-- The words that refusals to a client are told by.
use Rattle.std.specs.Prelude.{ℕ, List, codes}
use Rattle.serve_client.specs.declared.stop.Cause.{Cause}
use Rattle.serve_client.specs.declared.stop.Cause.TheVariants as causes

abbrev pub cause_word : Cause → List ℕ
cause_word causes.TooManyFrames = codes "TooManyFrames"
cause_word causes.ClockEnd = codes "ClockEnd"
cause_word causes.NoMemory = codes "NoMemory"
