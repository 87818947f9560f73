use Rattle.std.proofs.Common.{◌≡◌, refl, ◌∙◌}
use Rattle.std.proofs.lemmas.Result.{err_from_is_err_and}
use Rattle.std.specs.Arc.{arc_value}
use Rattle.filters.specs.Chain.{chain_of}
use Rattle.y4m_header.specs.HeaderLine.{IsHeaderLine}
use Rattle.serve_script.specs.SessionCommand.{stream_told}
use Rattle.serve_script.specs.SessionInside.{settings_told}
use Rattle.serve_script.proofs.StreamAsked.{Says, chain_made, chain_refused, header_refused, late, ops_fault}
use Rattle.serve_script.proofs.session.stream_settings.StreamSettings.spec_of.Goals as goal

pub returns-in_err-ops-clause-fault : goal.returns-in_err-ops-clause-fault
returns-in_err-ops-clause-fault c =
    let settings = settings_told c.args.self in
    let form = stream_told c.args.stream in
    let p = err_from_is_err_and c.from_residual.result c.from_residual.ensures.1 in
    let says = c.in_err-ops.ensures in
    rw (p.1, p.2) (ops_fault settings form c.in_err-ops.field-0.0 says.bad says.many says.no_other)

pub returns-in_err-header-clause-fault : goal.returns-in_err-header-clause-fault
returns-in_err-header-clause-fault c =
    let settings = settings_told c.args.self in
    let form = stream_told c.args.stream in
    let p = err_from_is_err_and c.from_residual-in_err-header.result c.from_residual-in_err-header.ensures.1 in
    let says : Says form c.in_ok-ops.ops.items = record { said = c.in_ok-ops.ensures.ops; few = c.in_ok-ops.ensures.few_ops } in
    rw (p.1, p.2)
    (header_refused settings form c.in_ok-ops.ops.items c.in_err-header.field-0.0 says
    c.in_err-header.ensures.refused)

pub returns-in_err-chain-clause-fault : goal.returns-in_err-chain-clause-fault
returns-in_err-chain-clause-fault c =
    let settings = settings_told c.args.self in
    let form = stream_told c.args.stream in
    let p = err_from_is_err_and c.from_residual-in_err-chain.result c.from_residual-in_err-chain.ensures.1 in
    let of = c.of-geometry.ensures in
    let g = c.of-geometry.result in
    let says : Says form c.in_ok-ops.ops.items = record { said = c.in_ok-ops.ensures.ops; few = c.in_ok-ops.ensures.few_ops } in
    let line : IsHeaderLine form.header g.width g.height g.chroma = rw (of.width, of.height, of.chroma) c.in_ok-header.ensures.stated in
    rw (p.1, p.2)
    (chain_refused settings form g c.args.self.height c.in_ok-ops.ops.items says line refl
    c.in_err-chain.field-0.0 c.in_err-chain.ensures.refused)

pub returns-in_err-spec-clause-fault : goal.returns-in_err-spec-clause-fault
returns-in_err-spec-clause-fault c =
    let settings = settings_told c.args.self in
    let form = stream_told c.args.stream in
    let p = err_from_is_err_and c.from_residual-in_err-spec.result c.from_residual-in_err-spec.ensures.1 in
    let says : Says form c.in_ok-ops.ops.items = record { said = c.in_ok-ops.ensures.ops; few = c.in_ok-ops.ensures.few_ops } in
    rw (p.1, p.2) (λ asked h. late settings form c.in_ok-ops.ops.items asked says h)

pub returns-clause-ok : goal.returns-clause-ok
returns-clause-ok c =
    let settings = settings_told c.args.self in
    let form = stream_told c.args.stream in
    let of = c.of-geometry.ensures in
    let g = c.of-geometry.result in
    let says : Says form c.in_ok-ops.ops.items = record { said = c.in_ok-ops.ensures.ops; few = c.in_ok-ops.ensures.few_ops } in
    let line : IsHeaderLine form.header g.width g.height g.chroma = rw (of.width, of.height, of.chroma) c.in_ok-header.ensures.stated in
    let chain : arc_value c.in_ok-spec.spec ≡ chain_of c.in_ok-ops.ops.items g c.args.self.height =
    c.in_ok-spec.ensures.ok ∙ c.new-2.ensures ∙ c.in_ok-chain.ensures.ok in
    rw (c.new-4.ensures, chain)
    (chain_made settings form g c.args.self.height c.in_ok-ops.ops.items says line refl
    (rw c.in_ok-chain.ensures.ok at c.in_ok-chain.ensures.is_chain))
