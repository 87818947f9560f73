use Rattle.std.proofs.Common.{rules, ℕ, ap, length, take, ◌∙◌}
use Rattle.serve_files.proofs.TakenAhead.{front_written}
use Rattle.serve_files.proofs.load.Load.take.Goals as goal

pub returns-clause-handed : goal.returns-clause-handed
returns-clause-handed g c =
    let copied = c.copy_front-self-inside in
    let room = ap length c.deref_mut.ensures.value ∙ c.self.invariant.1 in
    front_written copied.new.room _ c.self.inside.bytes.len copied.result (search rules) (search rules)
    ∙ copied.ensures.front ∙ ap (λ (n : ℕ). take n c.args.buf.now) room
