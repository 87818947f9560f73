use Rattle.std.proofs.Common.{◌≡◌, ◌-◌, ◌<◌, ℕ, List, IfSome, OnOk, Result, Ok, Err, slice_set, get_or, ap, ◌∙◌}
use Rattle.std.proofs.Common.{arith, length, rules}
use Rattle.std.proofs.lemmas.List.{length-set, get_or-set_same}
use Rattle.frame_view.specs.Frame.{line_of}
use Rattle.row_bands.specs.declared.canvas.Canvas.{Canvas}
use Rattle.row_bands.specs.Canvas.{frame_of, height_of}
use Rattle.filters.specs.Chain.{ChainValue, format_of}
use Rattle.filters.specs.Front.{AreCanvases, last_canvas}
use Rattle.filters.proofs.ChainImages.{canvases_painted}
use Rattle.filters.proofs.Front.{of_last}
use Rattle.filters.proofs.chain.canvases.set_last_line.Goals as goal

-- a canvas with another line serves as before
canvas_lined : (chain : ChainValue) (canvases : List Canvas) (i : ℕ) (was new : Canvas) → i < length canvases
    → AreCanvases chain canvases → (frame_of new).geometry ≡ (frame_of (get_or canvases i was)).geometry
    → height_of new ≡ height_of (get_or canvases i was) → AreCanvases chain (slice_set canvases i new)
canvas_lined chain canvases i was new h all geometry height =
    let at = all.each i was h in
    canvases_painted canvases i new h chain all
    (record { format = ap format_of geometry ∙ at.format; height = height ∙ at.height })

last_set : (P : Canvas → Type 0) (canvases : List Canvas) (new : Canvas) → 0 < length canvases → P new
    → IfSome (last_canvas (slice_set canvases (length canvases - 1) new)) P
last_set P canvases new some held =
    let i = length canvases - 1 in
    let same : length (slice_set canvases i new) ≡ length canvases = length-set canvases i new in
    of_last P (slice_set canvases i new) new (omega (arith, same))
    (rw (same, get_or-set_same canvases i new new (omega arith)) held)

on_ok : {T E : Type 0} (result : Result T E) (A B : Type 0) → (A → B) → OnOk result A → OnOk result B
on_ok (Ok value) A B f held = f held
on_ok (Err e) A B f held = tt

pub returns-clause-canvases : goal.returns-clause-canvases
returns-clause-canvases c chain all =
    let set = c.set_line.ensures in
    let some : 0 < length c.args.canvases.now = search rules in
    canvas_lined chain c.args.canvases.now _ c.index-canvases-last.result c.set_line.new.self (omega arith) all
    set.keeps_rest.geometry set.keeps_rest.height

pub returns-clause-line : goal.returns-clause-line
returns-clause-line c =
    let some : 0 < length c.args.canvases.now = search rules in
    on_ok c.set_line.result _ _
    (last_set (λ canvas. line_of (frame_of canvas) ≡ c.args.line.now) c.args.canvases.now c.set_line.new.self some)
    c.set_line.ensures.ok
