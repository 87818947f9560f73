use Rattle.std.proofs.Common.{◌+◌, ◌∙◌, ap, arith, refl, rules}
use Rattle.std.proofs.lemmas.Result.{err_from_is_err_and}
use Rattle.y4m_stream.proofs.MoreFrames.{PassesFrames-none, HasPassed-read}
use Rattle.y4m_stream.proofs.Ahead.{Ahead-all, Ahead-cut, Ahead-limit, Ahead-memory, Ahead-next, Ahead-unread}
use Rattle.y4m_stream.proofs.Ahead.{HasPassed-ahead, PassesAhead-first, beside_ready, first_ready, read_once, reads_once}
use Rattle.y4m_stream.proofs.overlapped.pass_images.Goals as goal

pub read_frame-requires : goal.read_frame-requires
read_frame-requires g c = rw c.requires.next c.requires.begin.ready.pass.header

pub returns-in_err-more : goal.returns-in_err-more
returns-in_err-more g c =
    let ready = c.requires.begin.ready.pass in
    let passed = err_from_is_err_and c.from_residual.result c.from_residual.ensures.1 in
    let none = PassesFrames-none c.args.filter.now.images.chain c.args.reader.now c.args.writer.now ready.writing in
    rw (passed.1, passed.2)
    (HasPassed-ahead _ _ _ _ _ _
    (HasPassed-read _ _ _ _ _ _ _ none _ _ (omega arith) (c.in_err-more.ensures.answer.is_open ready.reading)))

pub loop-count-init : goal.loop-count-init
loop-count-init g c =
    let ready = c.requires.begin.ready.pass in
    let read = c.in_ok-more.ensures in
    let next = c.read_frame.new.frame in
    let answer = read.answer.is_open ready.reading in
    record {
      same = refl;
      next = read.geometry ∙ c.requires.next;
      frame = c.requires.begin.ready.frame;
      ready = first_ready _ _ _ _ next _ read.answer.header answer ready;
      put = c.requires.begin.none;
      passed = PassesAhead-first _ _ _ _ _ next ready.writing read.answer.header answer;
    }

pub returns-then-not-more : goal.returns-then-not-more
returns-then-not-more g c = Ahead-all _ _ _ _ _ _ _ _ c.loop-count.invariant.passed _ c.if-not-more.true refl (omega arith)

pub returns-in_err-take_line_of : goal.returns-in_err-take_line_of
returns-in_err-take_line_of g c =
    let passed = err_from_is_err_and c.from_residual-in_err-take_line_of.result c.from_residual-in_err-take_line_of.ensures.1 in
    rw (passed.1, passed.2)
    (Ahead-memory _ _ _ _ _ _ _ _ c.loop-count.invariant.passed c.if-not-more.false _ (omega arith) c.in_err-take_line_of.ensures.memory)

pub read_and_put-read-requires-clause-ready : goal.read_and_put-read-requires-clause-ready
read_and_put-read-requires-clause-ready g c =
    let so_far = c.loop-count.invariant in
    let chain = c.take_line_of.ensures.chain ∙ so_far.same in
    λ _ _. record {
      ready = record {
        pass = rw chain (so_far.ready c.if-not-more.false);
        frame = rw chain (ap (λ frame. frame.geometry) c.swap.ensures.x_after ∙ so_far.next);
      };
      few = omega (arith, so_far.put);
      next = search rules;
      line = search rules;
    }

pub returns-in_err-put : goal.returns-in_err-put
returns-in_err-put g c =
    let so_far = c.loop-count.invariant in
    let both = c.read_and_put-read.ensures in
    let next = c.read_and_put-read.new.next in
    let put = rw (c.take_line_of.ensures.chain, so_far.same, c.swap.ensures.x_after, c.in_err-put.was) at both.put in
    let passed = err_from_is_err_and c.from_residual-in_err-put.result c.from_residual-in_err-put.ensures.1 in
    rw (passed.1, passed.2)
    (Ahead-cut _ _ _ _ _ _ _ _ so_far.passed c.if-not-more.false (omega arith) put.image put.made _ _ _
    (read_once _ _ next _ both.read both.ahead) (reads_once _ _ next _ both.read) put.holds)

pub returns-in_err-more-2 : goal.returns-in_err-more-2
returns-in_err-more-2 g c =
    let so_far = c.loop-count.invariant in
    let both = c.read_and_put-read.ensures in
    let put = rw (c.take_line_of.ensures.chain, so_far.same, c.swap.ensures.x_after, c.in_ok-put.was) at both.put in
    let passed = err_from_is_err_and c.from_residual-in_err-more-2.result c.from_residual-in_err-more-2.ensures.1 in
    rw (passed.1, passed.2)
    (Ahead-unread _ _ _ _ _ _ _ _ so_far.passed c.if-not-more.false (omega arith) put.image put.made _ _ _ put.holds
    (rw c.in_err-more-2.was at both.read))

pub loop-count-preserved : goal.loop-count-preserved
loop-count-preserved g c =
    let so_far = c.loop-count.invariant in
    let both = c.read_and_put-read.ensures in
    let next = c.read_and_put-read.new.next in
    let put = rw (c.take_line_of.ensures.chain, so_far.same, c.swap.ensures.x_after, c.in_ok-put.was) at both.put in
    let read = rw c.in_ok-more-2.was at both.read in
    record {
      same = both.keeps_sizes.chain ∙ c.take_line_of.ensures.chain ∙ so_far.same;
      next = both.next ∙ ap (λ frame. frame.geometry) c.swap.ensures.y_after ∙ so_far.frame;
      frame = both.keeps_sizes.frame ∙ ap (λ frame. frame.geometry) c.swap.ensures.x_after ∙ so_far.next;
      ready = beside_ready _ _ _ _ _ next _ _ both.header read put.holds (so_far.ready c.if-not-more.false);
      put = ap (λ w. w.frames) put.holds.counted ∙ ap (λ n. n + 1) so_far.put;
      passed = Ahead-next _ _ _ _ _ _ _ _ so_far.passed c.if-not-more.false (omega arith) put.image put.made _ _ _ next
          both.header put.holds read;
    }

pub returns-then-more : goal.returns-then-more
returns-then-more g c = Ahead-limit _ _ _ _ _ _ _ _ c.loop-count.invariant.passed c.if-more.true (omega arith)

pub returns : goal.returns
returns g c = Ahead-all _ _ _ _ _ _ _ _ c.loop-count.invariant.passed _ c.if-more.false (omega arith) (omega arith)
