-- Whether the files of a run are told apart.
use Rattle.std.specs.Prelude.{ℕ, ◌≡◌, ◌||◌, Bool, true, false, IsTrue, List, [], ◌∷◌, ◌++◌, codes, map}
use Rattle.std.specs.Prelude.{All, AllPairs, Any, Option, None, Some}
use Rattle.std.specs.List.{flat_map}
use Rattle.serve_words.specs.ServeChecks.{Fault, RepeatedFile}
use Rattle.serve_words.specs.StreamWords.{StreamAsked}
use Rattle.serve_files.specs.declared.files.Place.{Place}
use Rattle.serve_files.specs.declared.files.Place.TheVariants as places
use Rattle.serve_report.specs.declared.serve.apart.FileUse.{FileUse}

-- this was told of what stands behind the name
abbrev pub OfPlace : Type 1
OfPlace = (name : List ℕ) (place : Place) → Type 0

abbrev pub HasWriter : FileUse → FileUse → Type 0
HasWriter one other = IsTrue (one.is_written || other.is_written)

-- two that clash: of one FIFO, or of one file that one of them writes; one that is missing is known by its
-- name, whatever was found at the other
abbrev pub ClashAt : (one other : FileUse) → Place → Place → Type 0
ClashAt one other (places.File id) (places.File id') = (id ≡ id') × HasWriter one other
ClashAt one other (places.Pipe id) (places.Pipe id') = id ≡ id'
ClashAt one other places.Missing place' = (one.name.now ≡ other.name.now) × HasWriter one other
ClashAt one other place places.Missing = (one.name.now ≡ other.name.now) × HasWriter one other
ClashAt one other place place' = ⊥

abbrev pub Clash : FileUse → FileUse → Type 0
Clash one other = ClashAt one other one.place other.place

abbrev pub IsApart : FileUse → FileUse → Type 0
IsApart one other = ¬ Clash one other

-- the first that clashes with one before it
pub record IsFirstClash (uses : List FileUse) (found : FileUse) : Type 0 where
  pub before : List FileUse
  pub later : List FileUse
  pub stands : uses ≡ before ++ found ∷ later
  pub apart : AllPairs IsApart before
  pub clash : Any (λ one. Clash one found) before

-- a name, and whether its file is written
abbrev pub NameUse : Type 0
NameUse = List ℕ × Bool

abbrev pub name_used : FileUse → NameUse
name_used found = (found.name.now, found.is_written)

abbrev pub stream_names : StreamAsked → List NameUse
stream_names stream = (stream.input, false) ∷ (stream.output, true) ∷ []

-- the report's, and then those of each stream
abbrev pub names_asked : List StreamAsked → List NameUse
names_asked streams = (codes "/dev/stdout", true) ∷ flat_map stream_names streams

-- the files that streams ask for, and the report's, with what was told of their names
pub record AreUses (PlaceGives : OfPlace) (streams : List StreamAsked) (uses : List FileUse) : Type 0 where
  pub names : map name_used uses ≡ names_asked streams
  pub places : All (λ found. PlaceGives found.name.now found.place) uses

abbrev pub UsesGive : List FileUse → Option Fault → Type 0
UsesGive uses None = AllPairs IsApart uses
UsesGive uses (Some fault) =
    (found : FileUse) × IsFirstClash uses found × (fault ≡ RepeatedFile found.name.now)

-- the files of streams are apart, or the first fault
abbrev pub FilesGive : OfPlace → List StreamAsked → Option Fault → Type 0
FilesGive PlaceGives streams given =
    (uses : List FileUse) × AreUses PlaceGives streams uses × UsesGive uses given

-- the file to which faults go clashes with none of the streams'; it may be the report's
pub record AreErrorsApart (PlaceGives : OfPlace) (streams : List StreamAsked) : Type 0 where
  pub report : FileUse
  pub uses : List FileUse
  pub are_uses : AreUses PlaceGives streams (report ∷ uses)
  pub errors : FileUse
  pub are_errors :
      (name_used errors ≡ (codes "/dev/stderr", true)) × PlaceGives (codes "/dev/stderr") errors.place
  pub apart : All (λ one. IsApart one errors) uses

-- a file of this name, which is written, clashes with none of the report's and the streams'
pub record IsTraceApart (PlaceGives : OfPlace) (streams : List StreamAsked) (name : List ℕ) : Type 0 where
  pub uses : List FileUse
  pub are_uses : AreUses PlaceGives streams uses
  pub trace : FileUse
  pub is_trace : (name_used trace ≡ (name, true)) × PlaceGives name trace.place
  pub apart : All (λ one. IsApart one trace) uses
