use Rattle.std.proofs.Common.{◌<◌, ◌∙◌, arith}
use Rattle.cbs_account.specs.declared.limits.TheConstants.{MOST_STREAMS}
use Rattle.serve_hub.proofs.Admitting.{part_left, refusal_told}
use Rattle.serve_hub.proofs.shared.Shared.admit.Goals as goal

pub split_off-requires-clause-has_parts : goal.split_off-requires-clause-has_parts
split_off-requires-clause-has_parts g c =
    let a = c.self.inside in
    let is = c.self.invariant in
    let few : a.streams < MOST_STREAMS =
    omega (arith, is.9, c.in-Ok.ensures.answer.0.few) in
    part_left _ a.book.opening a.streams a.workers a.spare.parts _ is.4 few is.2 is.7

pub returns-in-Err-clause-refused : goal.returns-in-Err-clause-refused
returns-in-Err-clause-refused g c = (
  c.into_spec-in-Err.ensures ∙ c.in-Err.ensures.returns_newcomer.0,
  refusal_told c.self.inside.book c.args.newcomer c.in-Err.refusal c.in-Err.ensures.refused,
)
