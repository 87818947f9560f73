use Rattle.std.proofs.Common.{ap, ◌∙◌, slice_get}
use Rattle.std.proofs.lemmas.Result.{err_from_is_err_and}
use Rattle.std.specs.Arc.{arc_value}
use Rattle.filters.specs.ChainImage.{value_of}
use Rattle.frame_view.specs.declared.frame.Frame.{Frame}
use Rattle.serve_core.specs.Events.{Arrive}
use Rattle.serve_script.specs.SessionInside.{SessionValue}
use Rattle.serve_script.proofs.Arrivals.{arrival_event, arrival_faults, arrival_lacks}
use Rattle.serve_script.proofs.session.running.Session.arrival.Goals as goal

pub returns-in_err-frame-clause-fault : goal.returns-in_err-frame-clause-fault
returns-in_err-frame-clause-fault c =
    let passed = err_from_is_err_and c.from_residual.result c.from_residual.ensures.1 in
    let found = c.geometry_at.ensures
    ∙ ap (λ (kept : SessionValue). slice_get kept.streams.geometries c.number_of-number.result) c.self.view_is in
    rw (passed.1, passed.2) (arrival_faults c.args.self.now c.args.name.now c.args.hex.now c.number_of-number.result c.geometry_at.result _
    c.requires c.number_of-number.ensures found c.in_err-frame.ensures.fault)

pub returns-in_err-new-clause-fault : goal.returns-in_err-new-clause-fault
returns-in_err-new-clause-fault c =
    let passed = err_from_is_err_and c.from_residual-in_err-new.result c.from_residual-in_err-new.ensures.1 in
    let found = c.geometry_at.ensures
    ∙ ap (λ (kept : SessionValue). slice_get kept.streams.geometries c.number_of-number.result) c.self.view_is in
    rw passed.1 (arrival_lacks c.args.self.now c.args.name.now c.args.hex.now c.number_of-number.result c.geometry_at.result
    (value_of c.in_ok-frame.frame) _ c.requires c.number_of-number.ensures found c.in_ok-frame.ensures.ok passed.2)

pub returns-clause-ok : goal.returns-clause-ok
returns-clause-ok c =
    let number = c.number_of-number.result in
    let found = c.geometry_at.ensures ∙ ap (λ (kept : SessionValue). slice_get kept.streams.geometries number) c.self.view_is in
    let same = ap (λ (frame : Frame). Arrive number (value_of frame)) c.in_ok-new.ensures.ok in
    arrival_event c.args.self.now c.args.name.now c.args.hex.now number c.geometry_at.result (value_of c.in_ok-frame.frame)
    (Arrive number (value_of (arc_value c.in_ok-new.field-0))) c.number_of-number.ensures found c.in_ok-frame.ensures.ok same
