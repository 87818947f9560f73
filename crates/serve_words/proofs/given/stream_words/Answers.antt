use Rattle.std.proofs.Common.{◌∙◌, [], ap, arith, codes, rules, take_all}
use Rattle.std.specs.Prelude.{unwrap_or}
use Rattle.clap.specs.Matches.{found_of}
use Rattle.serve_words.proofs.Found.{all_by_row, of_unwrapped}
use Rattle.serve_words.specs.StreamWords.{words_asked}
use Rattle.serve_words.proofs.given.stream_words.Goals as goal

pub returns : goal.returns
returns c = c.loop-word.invariant
    ∙ ap words_asked (take_all c.loop-word.word-index c.unwrap_or-word-items.result.now (search (rules, arith)))
    ∙ ap (λ words. words_asked words.now) c.unwrap_or-word-items.ensures ∙ of_unwrapped (λ words. words_asked words.now) c.get_strs.result _
    ∙ ap (λ given. unwrap_or given []) (c.get_strs.ensures ∙ all_by_row (found_of c.args.matches.now) (codes "STREAM"))
