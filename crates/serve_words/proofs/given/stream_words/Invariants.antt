use Rattle.std.proofs.Common.{◌≡◌, take}
use Rattle.serve_words.specs.StreamWords.{words_asked}
use Rattle.serve_words.proofs.given.stream_words.Given as goal

-- the words so far
abbrev pub invariant-loop-word : goal.invariant-loop-word
invariant-loop-word l = words_asked l.streams.items ≡ words_asked (take l.word-index l.word-items)
