use Rattle.std.proofs.Common.{arith, ◌+◌, map, ap, ◌∙◌}
use Rattle.std.specs.List.{range_with_len}
use Rattle.frame_view.specs.Rows.{row_of}
use Rattle.frame_view.specs.Frame.{samples_of}
use Rattle.frame_view.proofs.Rows.{run_of-part, map-range-same}
use Rattle.frame_view.proofs.frame.Frame.plane.Goals as goal

pub returns-clause-runs : goal.returns-clause-runs
returns-clause-runs c = λ from to h k. run_of-part _ _ _ _ _ from to _ c.plane_size-size.ensures.columns c.rows-samples.ensures.value h k

pub returns-clause-listed : goal.returns-clause-listed
returns-clause-listed c =
    let f = c.args.self.now in
    map-range-same _ (row_of f.geometry (samples_of f) c.args.p) c.plane_size-size.result.rows
    (λ y l. run_of-part _ _ _ _ _ y (y + 1) _ c.plane_size-size.ensures.columns c.rows-samples.ensures.value (omega arith) (omega arith))
    ∙ ap (λ n. map (row_of f.geometry (samples_of f) c.args.p) (range_with_len 0 n)) c.plane_size-size.ensures.rows
