use Rattle.std.proofs.Common.{◌<◌, length, arith}
use Rattle.serve_script.proofs.Fronts.{not_written, pieces_cut}
use Rattle.serve_script.proofs.output.put_pieces.Goals as goal

pub returns-in_err-put-clause-text : goal.returns-in_err-put-clause-text
returns-in_err-put-clause-text g c =
    let within : c.loop-piece.piece-index < length c.args.pieces.now = omega arith in
    not_written _ _ _ c.from_residual.result c.from_residual.ensures.0
    (pieces_cut (λ piece. piece.now) c.args.pieces.now c.loop-piece.piece-index _ _ _ _ within
    c.loop-piece.invariant.out c.in_err-put.ensures.text)
