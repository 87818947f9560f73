use Rattle.std.proofs.Common.{◌∙◌, sym, arith, rules}
use Rattle.serve_hub.proofs.Agreeing.{next_call}
use Rattle.serve_hub.proofs.agree.agrees.Goals.{then-next-calls-via-then-next-calls, then-next-calls-via-else-next-calls+then-ne}
use Rattle.serve_hub.proofs.agree.agrees.Goals as goal

-- an entry of the seat that isn't its next call
pub returns-then-next-calls : goal.returns-then-next-calls
returns-then-next-calls c = (
  λ yes. absurd (cc),
  λ all.
      let it = next_call c.args.seat c.args.journal.now c.args.calls.now c.loop-entry.entry-index c.loop-entry.next _
      (omega arith) c.loop-entry.invariant.0 c.loop-entry.invariant.1 (sym c.is_same_seat.ensures ∙ c.if-is_same_seat.true) all in
      absurd (elim c.then-next-calls.branch [
        | then-next-calls-via-then-next-calls w ↦ omega (arith, it.0)
        | then-next-calls-via-else-next-calls+then-ne w ↦ search (rules, it.1)
      ]),
)
