use Rattle.std.proofs.Common.{◌≡◌, ℕ, List, ◌++◌, rules, subst, sym}
use Rattle.std.specs.Option.{option_copied}
use Rattle.serve_script.specs.ScriptFault.{name_text}
use Rattle.serve_script.specs.Writing.{Writes}
use Rattle.serve_script.proofs.Fronts.{later_written}
use Rattle.serve_script.proofs.output.put_name.Goals as goal

pub returns-clause-text : goal.returns-clause-text
returns-clause-text g c =
    let text : name_text (option_copied c.args.name) ≡ c.as_slice.result.now ++ c.in-Some.name.now = search rules in
    subst (λ (all : List ℕ). Writes (g.W.Sink.contents c.args.writer.now) (g.W.Sink.contents c.put-2.new.writer) all
    c.put-2.result) (sym text)
    (later_written _ _ _ _ c.in-Some.name.now _ c.in_ok-put.ensures.text c.put-2.ensures.text)
