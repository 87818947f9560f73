use Rattle.std.proofs.Common.{◌∙◌, ap}
use Rattle.std.specs.Option.{option_map}
use Rattle.serve_script.specs.ScriptFault.{name_text}
use Rattle.serve_script.specs.ScriptInside.{stop_told}
use Rattle.serve_script.specs.ScriptReport.{stop_text}
use Rattle.serve_script.proofs.Fronts.{not_written}
use Rattle.serve_script.proofs.StopLines.{front_cut, name_cut, stop_pieces, stop_written}
use Rattle.serve_script.proofs.output.put_stop.Goals as goal

pub returns-in_err-put_pieces-clause-text : goal.returns-in_err-put_pieces-clause-text
returns-in_err-put_pieces-clause-text g c =
    let stop = stop_told c.in-Some.stop in
    let text = ap (λ told. stop_text (option_map stop_told told)) c.in-Some.is in
    let front = stop_pieces stop _ _ _ _ c.as_slice.ensures (c.as_bytes.ensures.value ∙ c.format.ensures.text)
    c.as_slice-2.ensures (c.as_bytes-2.ensures.value ∙ c.word.ensures) in
    not_written _ _ _ c.from_residual.result c.from_residual.ensures.0 (front_cut stop _ _ _ _ text front c.in_err-put_pieces.ensures.text)

pub returns-in_err-put_name-clause-text : goal.returns-in_err-put_name-clause-text
returns-in_err-put_name-clause-text g c =
    let stop = stop_told c.in-Some.stop in
    let text = ap (λ told. stop_text (option_map stop_told told)) c.in-Some.is in
    let front = stop_pieces stop _ _ _ _ c.as_slice.ensures (c.as_bytes.ensures.value ∙ c.format.ensures.text)
    c.as_slice-2.ensures (c.as_bytes-2.ensures.value ∙ c.word.ensures) in
    not_written _ _ _ c.from_residual-in_err-put_name.result c.from_residual-in_err-put_name.ensures.0
    (name_cut stop _ _ _ _ _ _ text front (ap name_text c.name.ensures) c.in_ok-put_pieces.ensures.text c.in_err-put_name.ensures.text)

pub returns-clause-text : goal.returns-clause-text
returns-clause-text g c =
    let stop = stop_told c.in-Some.stop in
    let text = ap (λ told. stop_text (option_map stop_told told)) c.in-Some.is in
    let front = stop_pieces stop _ _ _ _ c.as_slice.ensures (c.as_bytes.ensures.value ∙ c.format.ensures.text)
    c.as_slice-2.ensures (c.as_bytes-2.ensures.value ∙ c.word.ensures) in
    stop_written stop _ _ _ _ _ _ _ _ c.put.result text front (ap name_text c.name.ensures) c.as_slice-3.ensures
    c.in_ok-put_pieces.ensures.text c.in_ok-put_name.ensures.text c.put.ensures.text
