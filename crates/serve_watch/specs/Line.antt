-- The line that shows how far a stream that is alone has come.
use Rattle.std.specs.Prelude.{ℕ, List, ◌∷◌, ◌++◌, codes, decimal}
use Rattle.serve_watch.specs.declared.line.Rates.{Rates}
use Rattle.serve_watch.specs.Terminal.{cleared, unwrapped, wrapped}

-- the line, over what stood there: `F frames, R.T frames/s, M MB/s`, on one row
abbrev pub line_drawn : Rates → List ℕ
line_drawn rates =
    unwrapped ++ 13 ∷ decimal rates.frames ++ codes " frames, " ++ decimal rates.whole ++ codes "."
    ++ decimal rates.tenth ++ codes " frames/s, " ++ decimal rates.megabytes ++ codes " MB/s" ++ cleared
    ++ wrapped
