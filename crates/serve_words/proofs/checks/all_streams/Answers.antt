use Rattle.std.proofs.Common.{◌∙◌}
use Rattle.serve_words.specs.ServeChecks.{all_told, asked_told}
use Rattle.serve_words.proofs.Asking.{one_word, said_more, told_more}
use Rattle.serve_words.proofs.checks.all_streams.Goals as goal

pub loop-word-preserved : goal.loop-word-preserved
loop-word-preserved c =
    let before = c.loop-word.streams.items in
    let asked = c.in_ok-asked.asked in
    let given = one_word c.args.is_input_taken (all_told before) c.args.words.now c.loop-word.word-index _ c.loop-word-test.true
    (asked_told asked) (rw c.deref.ensures.value at c.in_ok-asked.ensures.stream) in
    record {
      given = rw (c.in_ok-push.ensures.items, told_more before asked) (c.loop-word.invariant.given ∙ given);
      said = rw c.in_ok-push.ensures.items (said_more before asked c.loop-word.invariant.said c.in_ok-asked.ensures.ops);
    }
