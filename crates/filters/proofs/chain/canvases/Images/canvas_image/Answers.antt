use Rattle.std.proofs.Common.{◌≡◌, ◌-◌, length, Some, arith, ap, ◌∙◌, refl, sym}
use Rattle.std.specs.Option.{option_map, unwrap_or}
use Rattle.std.proofs.lemmas.Option.{slice_get_read}
use Rattle.row_bands.specs.Canvas.{frame_of}
use Rattle.filters.specs.Front.{last_canvas}
use Rattle.filters.proofs.chain.canvases.Images.canvas_image.Goals as goal

last : (c : goal.After-frame) → last_canvas c.args.self.now.canvases ≡ Some c.index.result.now
last c =
    let canvases = c.self.inside.canvases in
    let some = rw (← c.self.view_is) at c.requires in
    let at : c.len.result - 1 ≡ length canvases.items - 1 = omega (arith, c.len.ensures, canvases.ok) in
    rw (← c.self.view_is, ← at) (slice_get_read canvases.items _ (c.len.result - 1) c.index.result.now refl
    (omega (arith, c.len.ensures, canvases.ok, c.self.invariant.count, some)) c.index.ensures)

pub returns-clause-last : goal.returns-clause-last
returns-clause-last c d =
    c.frame.ensures ∙ ap (λ canvas. unwrap_or (option_map frame_of canvas) d) (sym (last c))
