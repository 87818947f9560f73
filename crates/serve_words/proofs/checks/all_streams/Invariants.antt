use Rattle.std.proofs.Common.{◌≡◌, [], drop}
use Rattle.serve_words.specs.ServeChecks.{AreSaid, all_told, words_given}
use Rattle.serve_words.specs.StreamWords.{words_asked}
use Rattle.serve_words.proofs.checks.all_streams.Given as goal

-- what comes of the words that are left comes of all
abbrev pub invariant-loop-word : goal.invariant-loop-word
invariant-loop-word l = record {
  given : words_given l.is_input_taken [] (words_asked l.words)
      ≡ words_given l.is_input_taken (all_told l.streams.items) (words_asked (drop l.word-index l.words));
  said : AreSaid l.streams.items;
}
