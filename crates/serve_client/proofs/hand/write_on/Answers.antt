use Rattle.std.proofs.Common.{refl}
use Rattle.serve_client.proofs.hand.write_on.Goals as goal

pub loop-init : goal.loop-init
loop-init g c = record { counted = (c.requires.part, refl); on = λ before within. within }
