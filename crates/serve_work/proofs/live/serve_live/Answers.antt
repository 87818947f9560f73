use Rattle.std.proofs.Common.{[]}
use Rattle.serve_work.proofs.live.serve_live.Goals as goal

pub serve_from-requires-clause-waits : goal.serve_from-requires-clause-waits
serve_from-requires-clause-waits g c κs within =
    let at = c.loop.invariant.nobody in
    (at.0, at.1, c.in-Some-next.ensures.given at.0 [] (c.show_none.ensures.waits at.0 [] at.2))

pub show_none-requires : goal.show_none-requires
show_none-requires g c = let at = c.loop.invariant.nobody in record { nobody = (at.0, at.2) }
