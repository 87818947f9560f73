use Rattle.std.proofs.Common.{refl, rules}
use Rattle.y4m_stream.proofs.reader.StreamReader.open_or_return.Goals as goal

pub returns-in-Ok-clause-opened : goal.returns-in-Ok-clause-opened
returns-in-Ok-clause-opened g c =
    let taken = c.in-Ok.ensures in
    record {
      header = taken.header;
      taken = search rules;
      ahead = search rules;
      is_open = refl;
      no_failure = search rules;
    }
