-- The frame that the rows of a band are rows of.
use Rattle.frame_view.specs.declared.frame.Frame.{Frame}
use Rattle.frame_view.specs.declared.geometry.Geometry.{Geometry}
use Rattle.row_bands.specs.declared.band.Band.{Band}

abbrev pub band_frame : Band → Frame
band_frame band = band.canvas.now.frame

abbrev pub band_geometry : Band → Geometry
band_geometry band = band.canvas.now.frame.geometry
