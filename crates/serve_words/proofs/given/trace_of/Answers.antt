use Rattle.std.proofs.Common.{◌∙◌, codes}
use Rattle.clap.specs.Matches.{found_of}
use Rattle.serve_words.proofs.Found.{first_by_row}
use Rattle.serve_words.proofs.given.trace_of.Goals as goal

pub returns : goal.returns
returns c = c.get_str.ensures ∙ first_by_row (found_of c.args.matches.now) (codes "trace")
