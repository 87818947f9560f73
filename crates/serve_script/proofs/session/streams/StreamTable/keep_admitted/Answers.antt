use Rattle.std.proofs.Common.{◌∙◌}
use Rattle.serve_script.proofs.StreamNames.{first_entries, first_unless, streams_of}
use Rattle.serve_script.proofs.session.streams.StreamTable.keep_admitted.Goals as goal

pub returns-in_default : goal.returns-in_default
returns-in_default c =
    let entries = c.self.inside.entries.entries in
    rw (← c.self.view_is, c.truncate.ensures.entries)
    (first_entries c.args.count entries ∙ first_unless c.args.count (streams_of entries) c.args.reply.now c.in_default.not-Admitted)
