use Rattle.std.proofs.Common.{arith, length-append, ◌∷◌, []}
use Rattle.std.proofs.lemmas.Result.{err_from_is_err_and}
use Rattle.y4m_stream.proofs.Puts.{put_both, put_some_bytes, put_some_line}
use Rattle.y4m_stream.proofs.put.put_frame.Goals as goal

pub returns-in_err-put_line-clause-text : goal.returns-in_err-put_line-clause-text
returns-in_err-put_line-clause-text g c =
    let line = c.args.line.now in
    let bytes = c.args.bytes.now in
    let told = err_from_is_err_and c.from_residual.result c.from_residual.ensures.1 in
    let put = c.in_err-put_line.ensures.text in
    rw (told.1, told.2) (
      omega (arith, put.0, length-append line (10 ∷ []), length-append line (10 ∷ bytes)),
      put_some_line _ _ line bytes c.in_err-put_line.field-0.0 put.0 put.1,
    )

pub returns-in-Ok-clause-text : goal.returns-in-Ok-clause-text
returns-in-Ok-clause-text g c =
    rw c.image_ended.ensures.bytes
    (put_both _ _ _ c.args.line.now c.args.bytes.now c.in_ok-put_line.ensures.text c.in-Ok.ensures.text)

pub returns-in-Err-clause-text : goal.returns-in-Err-clause-text
returns-in-Err-clause-text g c =
    let line = c.args.line.now in
    let bytes = c.args.bytes.now in
    let put = c.in-Err.ensures.text in (
      omega (arith, put.0, length-append line (10 ∷ bytes)),
      put_some_bytes _ _ _ line bytes c.in-Err.n c.in_ok-put_line.ensures.text put.1,
    )
