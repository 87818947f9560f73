use Rattle.std.proofs.Common.{◌∙◌}
use Rattle.clap.specs.Matches.{found_of}
use Rattle.serve_words.proofs.Found.{one_by_row}
use Rattle.serve_words.proofs.given.flag_of.Goals as goal

pub returns : goal.returns
returns c =
    let same = one_by_row (found_of c.args.matches.now) c.args.name.now in
    record {
      none = λ is. c.get_flag.ensures.none (same ∙ is);
      raised = λ is. c.get_flag.ensures.value (same ∙ is);
      left = λ is. c.get_flag.ensures.other (same ∙ is);
    }
