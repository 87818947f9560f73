use Rattle.std.proofs.Common.{◌∙◌, [], ap, codes}
use Rattle.std.specs.Prelude.{unwrap_or}
use Rattle.clap.specs.Matches.{found_of}
use Rattle.serve_words.proofs.Found.{first_by_row, of_unwrapped}
use Rattle.serve_words.proofs.given.operations_of.Goals as goal

pub returns : goal.returns
returns c = ap (λ text. text.now) c.unwrap_or.ensures ∙ of_unwrapped (λ text. text.now) c.get_str.result _
    ∙ ap (λ given. unwrap_or given []) (c.get_str.ensures ∙ first_by_row (found_of c.args.matches.now) (codes "OPS"))
