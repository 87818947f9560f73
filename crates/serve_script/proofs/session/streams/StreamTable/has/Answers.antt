use Rattle.std.proofs.Common.{◌∙◌, bytes_eq}
use Rattle.std.proofs.lemmas.Map.Made.{is_some-lookup}
use Rattle.serve_script.proofs.StreamNames.{any_name}
use Rattle.serve_script.proofs.session.streams.StreamTable.has.Goals as goal

pub returns : goal.returns
returns c =
    let name = c.args.name.now in
    let entries = c.self.inside.entries.entries in
    rw (← c.self.view_is)
    (c.contains_key.ensures ∙ is_some-lookup (λ key. bytes_eq name key.now) entries ∙ any_name (bytes_eq name) entries)
