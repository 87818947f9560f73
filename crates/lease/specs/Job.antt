-- A job: a frame, and what was made of it by now.
use Rattle.std.specs.Prelude.{◌≡◌, ℕ, ◌+◌, ◌<◌, ◌≤◌, Option, Some, None}
use Rattle.std.specs.Prelude.{List, [], ◌∷◌, ◌++◌, length, map, slice_index_or, slice_set}
use Rattle.std.specs.Option.{unwrap_or}
use Rattle.y4m_header.specs.Chroma.{plane_count}
use Rattle.frame_view.specs.declared.frame.Frame.{Frame}
use Rattle.frame_view.specs.Frame.{line_of, samples_of}
use Rattle.frame_view.specs.Places.{plane_width}
use Rattle.frame_view.specs.Rows.{sample}
use Rattle.row_bands.specs.declared.canvas.Canvas.{Canvas}
use Rattle.row_bands.specs.Canvas.{frame_of}
use Rattle.row_bands.specs.Bands.{luma_from, luma_to, IsInBand}
use Rattle.row_bands.specs.Written.{HasBand}
use Rattle.filters.specs.declared.op.Op.{Op}
use Rattle.filters.specs.Image.{image_pixel}
use Rattle.filters.specs.Chain.{ChainValue}
use Rattle.filters.specs.Steps.{IsStep, counts_of, steps_of}
use Rattle.lease.specs.Canvases.{IsImageCanvas, IsScratch}

pub record JobValue : Type 0 where
  pub chain : ChainValue
  pub source : Frame
  -- the canvases of all operations but the last, once the job has started
  pub scratch : Option (List Canvas)
  -- the last operation's canvas
  pub canvas : Canvas
  -- how many steps are done
  pub done : ℕ

-- the source, and then what stands in the canvas of each operation: an operation is done on one of these
-- frames, and the next one becomes its image
abbrev pub frames_by : Frame → List Canvas → Canvas → List Frame
frames_by source scratch canvas = source ∷ map frame_of (scratch ++ canvas ∷ [])

abbrev pub frames_of : JobValue → List Frame
frames_of job = frames_by job.source (unwrap_or job.scratch []) job.canvas

-- the picture that operation `op` of a chain makes of the frame that it is done on
abbrev pub picture_of : ChainValue → List Frame → ℕ → Op → Frame → ℕ → ℕ → ℕ → ℕ
picture_of chain frames op o d =
    let source = slice_index_or frames op d in
    image_pixel (slice_index_or chain.ops op o) source.geometry (samples_of source)

-- the rows of band k are the picture's
abbrev pub HoldsBand : (ℕ → ℕ → ℕ → ℕ) → ℕ → ℕ → Frame → Type 0
HoldsBand picture b k frame = (p y x : ℕ) → p < plane_count frame.geometry.chroma
    → IsInBand frame.geometry b k p y → x < plane_width frame.geometry p
    → sample frame.geometry (samples_of frame) p y x ≡ picture p y x

-- the first steps are done: the band of each holds the rows of its operation's image
abbrev pub AreDone : ChainValue → List Frame → ℕ → Type 0
AreDone chain frames done = (k op band : ℕ) (o : Op) (d : Frame) → k < done
    → IsStep (counts_of chain) k op band → HoldsBand (picture_of chain frames op o d)
    chain.band_height.rows band (slice_index_or frames (op + 1) d)

-- a frame of the chain's, and canvases for all of its operations
pub record HasCanvases (chain : ChainValue) (frame : Frame) (canvases : List Canvas)
    (last : Canvas) : Type 0 where
  pub source : frame.geometry ≡ chain.geometry
  pub scratch : IsScratch chain canvases
  pub canvas : IsImageCanvas chain last

-- a frame of the chain's, canvases for all of its operations but the last, and a band of one of them
pub record HasBandBetween (chain : ChainValue) (i k : ℕ) (frame : Frame) (canvases : List Canvas)
    : Type 0 where
  pub op : i < length canvases
  pub band : k < slice_index_or (counts_of chain) i 0
  pub source : frame.geometry ≡ chain.geometry
  pub scratch : IsScratch chain canvases

-- what a job always is
pub record IsJob (job : JobValue) : Type 0 where
  pub geometry : job.source.geometry ≡ job.chain.geometry
  pub canvas : IsImageCanvas job.chain job.canvas
  pub line : line_of (frame_of job.canvas) ≡ line_of job.source
  pub scratch : (canvases : List Canvas) → job.scratch ≡ Some canvases → IsScratch job.chain canvases
  pub waits : job.scratch ≡ None → job.done ≡ 0
  pub within : job.done ≤ steps_of job.chain
  pub are_done : AreDone job.chain (frames_of job) job.done

-- a job that no step is done of
abbrev pub waiting : ChainValue → Frame → Canvas → JobValue
waiting chain source canvas = record {
  chain = chain;
  source = source;
  scratch = None;
  canvas = canvas;
  done = 0;
}

-- this band of this operation's image is written, and all else stays
pub record WritesBand (chain : ChainValue) (op band : ℕ) (frames frames' : List Frame) : Type 0 where
  pub image : Frame
  pub others : frames' ≡ slice_set frames (op + 1) image
  pub rows : (o : Op) (d : Frame) → let b = chain.band_height.rows in
      let before = slice_index_or frames (op + 1) d in
      HasBand (picture_of chain frames op o d) (luma_from b band) (luma_to before.geometry b band)
      before image

-- step k of the chain is done in these canvases: its band is written, and all else stays
pub record WritesStep (chain : ChainValue) (k : ℕ) (source : Frame) (old new : List Canvas)
    (before after : Canvas) : Type 0 where
  pub scratch : IsScratch chain new
  pub canvas : IsImageCanvas chain after
  pub line : line_of (frame_of after) ≡ line_of (frame_of before)
  pub written : (op band : ℕ) → IsStep (counts_of chain) k op band
      → WritesBand chain op band (frames_by source old before) (frames_by source new after)
  pub done : AreDone chain (frames_by source old before) k
      → AreDone chain (frames_by source new after) (k + 1)

-- one step more is done: its band is written, and all else stays
pub record StepsOn (old new : JobValue) : Type 0 where
  pub kept : new ≡ record old { scratch = new.scratch; canvas = new.canvas; done = old.done + 1 }
  pub written : (op band : ℕ) → IsStep (counts_of old.chain) old.done op band
      → WritesBand old.chain op band (frames_of old) (frames_of new)
