use Rattle.std.proofs.Common.{refl}
use Rattle.serve_core.specs.TallyInside.{tally}
use Rattle.serve_core.proofs.Calls.TallyStreams.{retire_decides, retire_not}
use Rattle.serve_core.proofs.tally.Tally.may_retire.Goals as goal

pub returns-then-are_free : goal.returns-then-are_free
returns-then-are_free c =
    retire_decides (tally c.self.inside) c.args.self.now c.deref-then-are_free.result.now c.deref.result.now
    c.some_stays.result c.self.view_is c.deref.ensures.value c.deref-then-are_free.ensures.value
    (c.if-are_free.ensures.0 refl) c.some_stays.ensures

pub returns-else-are_free : goal.returns-else-are_free
returns-else-are_free c =
    rw c.if-are_free.false (retire_not (tally c.self.inside) c.args.self.now c.deref.result.now c.self.view_is
    c.deref.ensures.value (λ free. absurd (let no = c.if-are_free.ensures.1 free in cc)))
