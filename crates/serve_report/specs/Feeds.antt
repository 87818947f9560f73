-- What a control gives, line by line.
use Rattle.std.specs.Prelude.{ℕ, ◌≡◌, ◌≤◌, ◌<◌, ◌+◌, ◌-◌, ◌^◌, ◌==◌, ◌⊎◌, min, nat_le, if◌then◌else◌}
use Rattle.std.specs.Prelude.{List, [], ◌∷◌, length, codes, position, take, Option, Some, None, IfSome, unwrap_or}
use Rattle.std.specs.Prelude.{Result, Ok, Err}
use Rattle.std.specs.Io.KnownBytes.{IsAtEnd, prepend_known}
use Rattle.std.specs.List.{before_first}
use Rattle.std.specs.Option.{option_map_or}
use Rattle.std.specs.Str.{bytes_eq}
use Rattle.y4m_header.specs.Text.{text_after}
use Rattle.y4m_stream.specs.Failures.{one_more}
use Rattle.serve_report.specs.declared.control.feed.Feeding.{Feeding}
use Rattle.serve_report.specs.declared.control.feed.Feeding.TheVariants as came
use Rattle.serve_report.specs.declared.control.feed.Found.{Found}
use Rattle.serve_report.specs.declared.control.feed.Found.TheVariants as found
use Rattle.serve_report.specs.declared.control.feed.TheConstants.{LONGEST_LINE}
use Rattle.serve_report.specs.declared.control.quoted.TheConstants.{MOST_TOLD}
use Rattle.serve_report.specs.declared.control.line.LineFault.{LineFault}
use Rattle.serve_report.specs.declared.control.line.LineFault.TheVariants.{BadLine, TooLong}

-- the last line, the bytes that were read and not yet taken, what the reader has left, how many lines came,
-- how the last of them began that is too long or isn't ended, and how many reads failed
pub record FeedState : Type 0 where
  pub line : List ℕ
  pub held : List ℕ
  pub left : Option (List ℕ)
  pub number : ℕ
  pub head : List ℕ
  pub failures : ℕ

-- all that is to be taken
abbrev pub rest_of : FeedState → Option (List ℕ)
rest_of feed = prepend_known feed.held feed.left

-- what comes first of a text; of what is no line, its first bytes
pub data Fed : Type 0 where
  Line : (line : List ℕ) → Fed
  Wrong : (fault : LineFault) → (head : List ℕ) → Fed
  End : Fed

-- a line that is ended, which may have so many bytes
abbrev pub line_fed : List ℕ → Fed
line_fed line =
    if nat_le (length line) LONGEST_LINE then Line line else Wrong TooLong (take MOST_TOLD line)

-- bytes that aren't ended: they are a line only where they are the whole of `end`
abbrev pub last_fed : List ℕ → Fed
last_fed [] = End
last_fed (byte ∷ more) =
    if nat_le (length (byte ∷ more)) LONGEST_LINE
    then if bytes_eq (byte ∷ more) (codes "end") then Line (byte ∷ more)
    else Wrong BadLine (take MOST_TOLD (byte ∷ more))
    else Wrong TooLong (take MOST_TOLD (byte ∷ more))

-- the first line of a text, up to its line feed (10)
abbrev pub first_fed : List ℕ → Fed
first_fed text =
    option_map_or (λ _. line_fed (before_first (λ byte. byte == 10) text)) (text_after 10 text)
    (last_fed text)

-- what stands behind it
abbrev pub behind_first : List ℕ → List ℕ
behind_first text = unwrap_or (text_after 10 text) []

-- what was told, where the line that came is this one, or else began so; of a reader that failed nothing is
abbrev pub fed_told : (line head : List ℕ) → Feeding → Option Fed
fed_told line head came.Line = Some (Line line)
fed_told line head (came.Fault fault) = Some (Wrong fault head)
fed_told line head came.End = Some End
fed_told line head came.ReadFailed = None

-- the first line was told, and what stands behind it is left
pub record Feeds (old : FeedState) (answer : Feeding) (new : FeedState) : Type 0 where
  pub told : IfSome (fed_told new.line new.head answer)
      (λ fed. IfSome (rest_of old)
      (λ text. (fed ≡ first_fed text) × (rest_of new ≡ Some (behind_first text))))

-- the number of the next line, where one came
abbrev pub numbered : Feeding → ℕ → ℕ
numbered came.Line number = min (number + 1) (2 ^ 64 - 1)
numbered (came.Fault fault) number = min (number + 1) (2 ^ 64 - 1)
numbered came.End number = number
numbered came.ReadFailed number = number

-- a read failed; or a line didn't end within as many bytes as a number of 64 bits counts
abbrev pub FailsOrRunsOn : FeedState → FeedState → Type 0
FailsOrRunsOn old new =
    (new.failures ≡ one_more old.failures) ⊎ IfSome (rest_of old) (λ text. 2 ^ 64 - 1 ≤ length text)

-- a read failed only where it is told so
abbrev pub CountsFailure : FeedState → Feeding → FeedState → Type 0
CountsFailure old came.Line new = new.failures ≡ old.failures
CountsFailure old (came.Fault fault) new = new.failures ≡ old.failures
CountsFailure old came.End new = new.failures ≡ old.failures
CountsFailure old came.ReadFailed new = FailsOrRunsOn old new

-- the same of a line that is lost
abbrev pub CountsLoss : {T E : Type 0} → Result T E → FeedState → FeedState → Type 0
CountsLoss (Ok x) old new = new.failures ≡ old.failures
CountsLoss (Err e) old new = FailsOrRunsOn old new

-- a line and its line feed are lost
abbrev pub LosesLine : Option (List ℕ) → Option (List ℕ) → Type 0
LosesLine old new = IfSome old (λ text. new ≡ Some (behind_first text))

-- no byte that is held is a line feed
abbrev pub IsUnended : FeedState → Type 0
IsUnended feed = position (λ byte. byte == 10) feed.held ≡ None

-- what was found among the bytes that are held
abbrev pub IsFound : FeedState → Found → Type 0
IsFound feed (found.Ended place) =
    (position (λ byte. byte == 10) feed.held ≡ Some place) × (place ≤ LONGEST_LINE)
IsFound feed found.Long = IsUnended feed × (LONGEST_LINE < length feed.held)
IsFound feed found.Last = IsUnended feed × (length feed.held ≤ LONGEST_LINE) × IsAtEnd feed.left
