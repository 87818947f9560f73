use Rattle.std.proofs.Common.{◌∙◌}
use Rattle.serve_script.proofs.StreamNames.{named_last, with_one_more}
use Rattle.serve_script.proofs.session.streams.StreamTable.push.Goals as goal

pub returns-clause-ok : goal.returns-clause-ok
returns-clause-ok c =
    let entries = c.self.inside.entries.entries in
    let free = rw (← c.self.view_is) at c.requires in
    rw (← c.self.view_is)
    (with_one_more c.args.name c.args.geometry entries c.insert.new.self.entries
    (c.in-Ok.ensures.entries ∙ named_last c.args.name c.args.geometry entries free))
