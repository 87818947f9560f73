-- The lines that show how far the streams of a run have come.
use Rattle.std.specs.Prelude.{ℕ, List, [], ◌++◌, codes, decimal, if◌then◌else◌, nat_lt}
use Rattle.std.specs.List.{flat_map}
use Rattle.serve_watch.specs.declared.row.StreamProgress.{StreamProgress}
use Rattle.serve_watch.specs.Terminal.{cleared, cleared_below, unwrapped, up, wrapped}

-- `NAME frames in I out O`, and `waiting for NAME` while that is shown
abbrev pub progress_text : StreamProgress → List ℕ
progress_text stream =
    if stream.is_awaited
    then codes "waiting for " ++ stream.name.now
    else stream.name.now ++ codes " frames in " ++ decimal stream.read ++ codes " out "
    ++ decimal stream.written

-- the line of a stream
abbrev pub line_drawn : StreamProgress → List ℕ
line_drawn stream = progress_text stream ++ cleared ++ codes "\n"

abbrev pub lines_drawn : List StreamProgress → List ℕ
lines_drawn streams = flat_map line_drawn streams

-- to the first of so many lines above
abbrev pub over : ℕ → List ℕ
over lines = if nat_lt 0 lines then up lines else []

-- nothing stands where so many lines were drawn
abbrev pub clearing_text : ℕ → List ℕ
clearing_text lines = over lines ++ cleared_below

-- a line for each stream, none of which wraps, over those that were drawn before
abbrev pub drawing_text : ℕ → List StreamProgress → List ℕ
drawing_text before streams =
    unwrapped ++ over before ++ lines_drawn streams ++ cleared_below ++ wrapped
