use Rattle.filters.proofs.blur.band.blur_rows.Goals as goal

pub returns-then-width-radius-le-NARROW_ROOM : goal.returns-then-width-radius-le-NARROW_ROOM
returns-then-width-radius-le-NARROW_ROOM c = c.blur_band.ensures

pub returns-else-width-radius-le-NARROW_ROOM : goal.returns-else-width-radius-le-NARROW_ROOM
returns-else-width-radius-le-NARROW_ROOM c = c.blur_band-else-width-radius-le-NARROW_ROOM.ensures
