use Rattle.std.proofs.Common.{List, reverse, refl, subst, arith, take_all}
use Rattle.serve_hub.specs.declared.entry.Entry.{Entry}
use Rattle.serve_hub.specs.Ends.{ClockReached}
use Rattle.serve_hub.proofs.Clocks.{reached_at, reached_more}
use Rattle.serve_hub.proofs.agree.clock_agrees.Goals.{else-is_offer_of-via-else-is_offer_of}
use Rattle.serve_hub.proofs.agree.clock_agrees.Goals.{else-is_offer_of-via-then-is_offer_of+else-not-is_first_reached}
use Rattle.serve_hub.proofs.agree.clock_agrees.Goals as goal

pub loop-entry-preserved : goal.loop-entry-preserved
loop-entry-preserved c = λ specs opening opened.
    reached_more c.args.number c.args.moments specs opening c.args.journal.now c.loop-entry.entry-index _ c.loop-entry.clock
    c.clock_after-clock.result (omega arith) (c.loop-entry.invariant specs opening opened) c.clock_after-clock.ensures
    (elim c.else-is_offer_of.branch [
      | else-is_offer_of-via-then-is_offer_of+else-not-is_first_reached w ↦ (λ offer. w.if-not-is_first_reached.ensures.0 refl)
      | else-is_offer_of-via-else-is_offer_of w ↦ (λ offer. let no = w.if-is_offer_of.ensures.1 offer in absurd (cc))
    ])

pub returns-then-not-is_first_reached : goal.returns-then-not-is_first_reached
returns-then-not-is_first_reached c = λ specs opening opened. (
  λ yes. absurd (cc),
  λ reached.
      c.if-not-is_first_reached.ensures.1
      (reached_at c.args.number c.args.moments specs opening c.args.journal.now c.loop-entry.entry-index _ c.loop-entry.clock
      c.clock_after-clock.result (omega arith) (c.loop-entry.invariant specs opening opened).0 c.clock_after-clock.ensures
      reached (c.if-is_offer_of.ensures.0 refl)),
)

pub returns : goal.returns
returns c = λ specs opening opened. (
  λ yes.
      subst (λ (j : List Entry). ClockReached c.args.number c.args.moments specs opening (reverse j))
      (take_all c.loop-entry.entry-index c.args.journal.now (omega arith)) (c.loop-entry.invariant specs opening opened).1,
  λ reached. refl,
)
