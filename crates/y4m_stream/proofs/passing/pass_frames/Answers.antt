use Rattle.std.proofs.Common.{◌+◌, arith, [], ◌∷◌, ◌++◌, length-append, refl, ◌∙◌, ap}
use Rattle.std.proofs.lemmas.Result.{err_from_is_err_and}
use Rattle.y4m_stream.proofs.MoreFrames.{CanPass-next, PassesFrames-none, PassesFrames-push, HasPassed-all}
use Rattle.y4m_stream.proofs.MoreFrames.{HasPassed-fault, HasPassed-limit, HasPassed-read}
use Rattle.y4m_stream.proofs.passing.pass_frames.Goals as goal

pub loop-count-init : goal.loop-count-init
loop-count-init g c = record {
  same = refl;
  frame = c.requires.ready.frame;
  ready = c.requires.ready.pass;
  put = c.requires.none;
  passed = ([], [], refl, PassesFrames-none _ _ _ c.requires.ready.pass.writing);
}

pub pass_frame-requires-clause-ready : goal.pass_frame-requires-clause-ready
pass_frame-requires-clause-ready g c =
    let so_far = c.loop-count.invariant in record { pass = rw so_far.same so_far.ready; frame = rw so_far.same so_far.frame }

pub loop-count-preserved : goal.loop-count-preserved
loop-count-preserved g c =
    let so_far = c.loop-count.invariant in
    let passed = c.in_ok-pass_frame.ensures in
    let one = rw (c.if-not-branch.false, so_far.same) at passed.answer in
    let put = one.2.put in
    record {
      same = passed.keeps_sizes.chain ∙ so_far.same;
      frame = passed.keeps_sizes.frame ∙ so_far.frame;
      ready = CanPass-next _ _ _ _ _ one.1 passed.header one.2.taken.stays_open put so_far.ready;
      put = ap (λ w. w.frames) put.counted ∙ ap (λ n. n + 1) so_far.put;
      passed = (
        so_far.passed.0 ++ one.0 ∷ [],
        so_far.passed.1 ++ one.1 ∷ [],
        omega (arith, length-append so_far.passed.0 (one.0 ∷ []), so_far.passed.2),
        PassesFrames-push _ _ _ _ _ _ _ so_far.passed.3 _ _ _ _ passed.header one.2,
      );
    }

pub returns-in_err-pass_frame : goal.returns-in_err-pass_frame
returns-in_err-pass_frame g c =
    let so_far = c.loop-count.invariant in
    let passed = err_from_is_err_and c.from_residual.result c.from_residual.ensures.1 in
    rw (passed.1, passed.2)
    (HasPassed-fault _ _ _ _ _ _ _ so_far.passed.3 _ _ _ (omega (arith, so_far.passed.2))
    (rw so_far.same at c.in_err-pass_frame.ensures.answer))

pub returns-then-not-branch : goal.returns-then-not-branch
returns-then-not-branch g c =
    let so_far = c.loop-count.invariant in
    let met = rw c.if-not-branch.true at c.in_ok-pass_frame.ensures.answer in
    rw met.1 (HasPassed-all _ _ _ _ _ _ _ so_far.passed.3 _ _ so_far.passed.2 (omega arith) met.0)

pub read_frame-requires : goal.read_frame-requires
read_frame-requires g c = rw c.loop-count.invariant.frame c.loop-count.invariant.ready.header

pub returns-in_err-read_frame : goal.returns-in_err-read_frame
returns-in_err-read_frame g c =
    let so_far = c.loop-count.invariant in
    let passed = err_from_is_err_and c.from_residual-in_err-read_frame.result c.from_residual-in_err-read_frame.ensures.1 in
    rw (passed.1, passed.2)
    (HasPassed-read _ _ _ _ _ _ _ so_far.passed.3 _ _ (omega (arith, so_far.passed.2))
    (c.in_err-read_frame.ensures.answer.is_open so_far.ready.reading))

pub returns-then-branch : goal.returns-then-branch
returns-then-branch g c =
    let so_far = c.loop-count.invariant in
    let one = rw c.if-branch.true at c.in_ok-read_frame.ensures.answer.is_open so_far.ready.reading in
    HasPassed-limit _ _ _ _ _ _ _ so_far.passed.3 _ _ (omega (arith, so_far.passed.2)) one

pub returns : goal.returns
returns g c =
    let so_far = c.loop-count.invariant in
    let met = rw c.if-branch.false at c.in_ok-read_frame.ensures.answer.is_open so_far.ready.reading in
    HasPassed-all _ _ _ _ _ _ _ so_far.passed.3 _ _ (omega (arith, so_far.passed.2)) (omega arith) met
