use Rattle.std.proofs.Common.{◌≡◌, take, length, arith, ap, ◌∙◌}
use Rattle.std.proofs.lemmas.List.{take_all}
use Rattle.filters.specs.Chain.{format_of, last_format}
use Rattle.filters.proofs.chain.Chain.out_geometry.Goals as goal

pub returns : goal.returns
returns c =
    let chain = c.args.self.now in
    let kept = ap (λ a. length a.ops) c.self.view_is in
    let all : take c.len.result chain.ops ≡ chain.ops =
    take_all c.len.result chain.ops (omega (arith, c.len.ensures, c.self.inside.ops.ok, kept)) in
    c.geometry_after.ensures ∙ ap (λ ops. last_format ops (format_of chain.geometry)) all
