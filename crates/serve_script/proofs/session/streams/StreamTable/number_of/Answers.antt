use Rattle.std.proofs.Common.{sym, ◌∙◌, Some, None}
use Rattle.serve_script.proofs.StreamNames.{number_found}
use Rattle.serve_script.proofs.session.streams.StreamTable.number_of.Goals as goal

pub returns-in-Some : goal.returns-in-Some
returns-in-Some c =
    rw (← c.self.view_is)
    (number_found c.args.name.now c.self.inside.entries.entries (Some c.in-Some.number) (sym c.in-Some.is ∙ c.get_index_of.ensures.index))

pub returns-in-None : goal.returns-in-None
returns-in-None c =
    rw (← c.self.view_is)
    (c.len.ensures.len ∙ number_found c.args.name.now c.self.inside.entries.entries None (sym c.in-None.is ∙ c.get_index_of.ensures.index))
