-- What a canvas and a band become when rows, lent for writing, come back.
use Rattle.std.specs.Prelude.{ℕ, List, []}
use Rattle.std.specs.Borrow.{Lends, MutBor, Fml, u8, Array}
use mir.Syntax.{named}
use Rattle.row_bands.specs.declared.canvas.Canvas.{Canvas}
use Rattle.row_bands.specs.declared.band.Band.{Band}
use Rattle.row_bands.specs.contracts.canvas.Canvas.{the_row as canvas_row}
use Rattle.row_bands.specs.contracts.band.Band.{the_row as band_row}
use Rattle.frame_view.specs.Places.{row_start}
use Rattle.frame_view.specs.Lending.{with_all_samples, with_samples}
use Rattle.row_bands.specs.Bands.{rows_above}

abbrev pub canvas_with : Canvas → ℕ → List ℕ → Canvas
canvas_with canvas i ws = record { frame = with_samples canvas.frame i ws; height = canvas.height }

abbrev pub band_with : Band → ℕ → List ℕ → Band
band_with band i ws = record {
  from = band.from;
  to = band.to;
  canvas = record band.canvas { now = canvas_with band.canvas.now i ws };
  ordered = band.ordered;
  inside = band.inside;
}

-- the samples of all planes are lent
abbrev pub LendsCanvas : MutBor Canvas → MutBor (List ℕ) → Fml
LendsCanvas canvas r = Lends canvas_row (Array u8 0) canvas r
    (λ ws. record { frame = with_all_samples canvas.now.frame ws; height = canvas.now.height })

-- the rows of plane p from row `from` on are lent
abbrev pub LendsCanvasRows : MutBor Canvas → ℕ → ℕ → MutBor (List ℕ) → Fml
LendsCanvasRows canvas p from r = Lends canvas_row (Array u8 0) canvas r
    (canvas_with canvas.now (row_start canvas.now.frame.geometry p from))

-- the same of a canvas that a band holds
abbrev pub LendsBandRows : MutBor Band → ℕ → ℕ → MutBor (List ℕ) → Fml
LendsBandRows band p from r = Lends (band_row (record { mir = named 1; lft = [] })) (Array u8 0) band r
    (band_with band.now (row_start band.now.canvas.now.frame.geometry p from))

-- all rows of plane p that the band has are lent
abbrev pub LendsPlane : MutBor Band → ℕ → MutBor (List ℕ) → Fml
LendsPlane band p r = LendsBandRows band p (rows_above band.now.canvas.now.frame.geometry p band.now.from) r
