use Rattle.std.proofs.Common.{◌∙◌, rules}
use Rattle.clap.specs.Matches.{found_of}
use Rattle.serve_words.proofs.Found.{one_by_row}
use Rattle.serve_words.proofs.given.number_of.Goals as goal

pub returns : goal.returns
returns c =
    let same = one_by_row (found_of c.args.matches.now) c.args.name.now in
    record {
      none = λ is. let none = c.get_one.ensures.none (same ∙ is) in search rules;
      some = λ text is numeral small. let read = c.get_one.ensures.value text (same ∙ is) in search rules;
    }
