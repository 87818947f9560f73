-- What may stand at the front of the bytes that a reader has left, and which fault stands where.
use Rattle.std.specs.Prelude.{◌≡◌, ◌≢◌, ℕ, ◌+◌, ◌<◌, ◌≤◌, ◌⊎◌, List, ◌∷◌, ◌++◌, length, take, All}
use Rattle.std.specs.Prelude.{Option, IfSome}
use Rattle.std.specs.Io.KnownBytes.{Consumes}
use Rattle.y4m_header.specs.declared.error.HeaderError.{HeaderError}
use Rattle.y4m_header.specs.declared.error.HeaderError.TheVariants.{NoMemory as NoHeaderMemory}
use Rattle.y4m_header.specs.declared.error.HeaderError.TheVariants.{NotFrame as NoFrameLine}
use Rattle.y4m_header.specs.Line.{IsLine}
use Rattle.y4m_header.specs.FrameLine.{IsFrameLine}
use Rattle.y4m_header.specs.Refusal.{IsRefusedAs}
use Rattle.y4m_stream.specs.declared.fault.ReadFault.{ReadFault}
use Rattle.y4m_stream.specs.declared.fault.ReadFault.TheVariants.{Device, LineTooLong, Header, NotFrame}
use Rattle.y4m_stream.specs.declared.fault.ReadFault.TheVariants.{Truncated, NoMemory, Failed}
use Rattle.y4m_stream.specs.declared.lookahead.TheConstants.{LINE_LIMIT}

-- no byte of these is a line feed
abbrev pub HasNoLineFeed : List ℕ → Type 0
HasNoLineFeed bytes = All (λ byte. byte ≢ 10) bytes

-- the bytes end before a line does
pub record IsCutLine (bytes : List ℕ) : Type 0 where
  pub short : length bytes < LINE_LIMIT
  pub no_feed : HasNoLineFeed bytes

-- the bytes begin with more than a line may have
pub record IsLongLine (bytes : List ℕ) : Type 0 where
  pub long : LINE_LIMIT ≤ length bytes
  pub no_feed : HasNoLineFeed (take LINE_LIMIT bytes)

-- a line stands at the front that is no frame line
pub record HasOtherLine (bytes : List ℕ) : Type 0 where
  pub line : List ℕ
  pub more : List ℕ
  pub is_line : IsLine line
  pub is_other : ¬ IsFrameLine line
  pub whole : bytes ≡ line ++ 10 ∷ more

-- a line stands at the front that is refused as a header line, for this reason
pub record HasRefusedHeader (e : HeaderError) (bytes : List ℕ) : Type 0 where
  pub line : List ℕ
  pub more : List ℕ
  pub is_line : IsLine line
  pub refused : IsRefusedAs e line
  pub whole : bytes ≡ line ++ 10 ∷ more

-- a frame line stands at the front
pub record HasFrameLine (bytes : List ℕ) : Type 0 where
  pub line : List ℕ
  pub more : List ℕ
  pub is_line : IsFrameLine line
  pub whole : bytes ≡ line ++ 10 ∷ more

-- a frame line stands at the front, and fewer bytes than these follow it
pub record IsCutData (len : ℕ) (bytes : List ℕ) : Type 0 where
  pub line : List ℕ
  pub more : List ℕ
  pub is_line : IsFrameLine line
  pub short : length more < len
  pub whole : bytes ≡ line ++ 10 ∷ more

-- the bytes end before a frame does whose data has this many
abbrev pub IsCutFrame : ℕ → List ℕ → Type 0
IsCutFrame len bytes = IsCutLine bytes ⊎ IsCutData len bytes

-- what a source gave is such: at first it had the one left, and then the other
abbrev pub HasGiven : Option (List ℕ) → Option (List ℕ) → (List ℕ → Type 0) → Type 0
HasGiven rest left P = (bytes : List ℕ) × Consumes rest left bytes × P bytes

-- of what is to be read next, no more than a line may have was read already
abbrev pub IsReadAhead : Option (List ℕ) → Option (List ℕ) → Type 0
IsReadAhead rest left = HasGiven rest left (λ bytes. length bytes ≤ LINE_LIMIT)

-- the same, with no more than the text of a frame before that, whose data has this many bytes
abbrev pub IsFrameAhead : ℕ → Option (List ℕ) → Option (List ℕ) → Type 0
IsFrameAhead len rest left = HasGiven rest left (λ bytes. length bytes ≤ LINE_LIMIT + len + LINE_LIMIT)

-- no header stands at the front of the rest, for this reason; the source has this left
abbrev pub StandsAtHeader : ReadFault → Option (List ℕ) → Option (List ℕ) → Type 0
StandsAtHeader Device rest left = HasGiven rest left IsCutLine
StandsAtHeader LineTooLong rest left = IfSome rest IsLongLine
StandsAtHeader (Header e) rest left =
    (e ≢ NoHeaderMemory) × (e ≢ NoFrameLine) × IfSome rest (HasRefusedHeader e)
StandsAtHeader NotFrame rest left = ⊥
StandsAtHeader Truncated rest left = IfSome rest IsCutLine
StandsAtHeader NoMemory rest left = IfSome rest (HasRefusedHeader NoHeaderMemory) × IsReadAhead rest left
StandsAtHeader Failed rest left = ⊥

-- something is left, and no frame of this many bytes stands at the front of it, for this reason
abbrev pub StandsAtFrame : ℕ → ReadFault → Option (List ℕ) → Option (List ℕ) → Type 0
StandsAtFrame len Device rest left = HasGiven rest left (IsCutFrame len)
StandsAtFrame len LineTooLong rest left = IfSome rest IsLongLine
StandsAtFrame len (Header e) rest left = ⊥
StandsAtFrame len NotFrame rest left = IfSome rest HasOtherLine
StandsAtFrame len Truncated rest left = IfSome rest (λ bytes. (0 < length bytes) × IsCutFrame len bytes)
StandsAtFrame len NoMemory rest left = IfSome rest HasFrameLine × IsReadAhead rest left
StandsAtFrame len Failed rest left = ⊥
