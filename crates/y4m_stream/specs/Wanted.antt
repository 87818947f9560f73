-- What a reader lacks of its next frame, and when no more of it is to be awaited.
use Rattle.std.specs.Prelude.{◌≡◌, ℕ, ◌+◌, ◌<◌, ◌≤◌, ◌⊎◌, ◌↔◌, List, ◌∷◌, ◌++◌, length, take}
use Rattle.y4m_header.specs.StreamText.{FrameText, IsFrameOf, text_of}
use Rattle.y4m_stream.specs.declared.lookahead.TheConstants.{LINE_LIMIT}
use Rattle.y4m_stream.specs.Front.{HasFrameLine, HasNoLineFeed, HasOtherLine, IsCutLine}

-- the rest of a line stands at the front, with its line feed at most so many bytes, and so many follow it
pub record HasRest (most behind : ℕ) (bytes : List ℕ) : Type 0 where
  pub rest : List ℕ
  pub more : List ℕ
  pub no_feed : HasNoLineFeed rest
  pub short : length rest < most
  pub enough : behind ≤ length more
  pub whole : bytes ≡ rest ++ 10 ∷ more

-- as many bytes as the rest of a line may have stand at the front, and no line feed is among them
pub record HasLongRest (most : ℕ) (bytes : List ℕ) : Type 0 where
  pub long : most ≤ length bytes
  pub no_feed : HasNoLineFeed (take most bytes)

-- where so many bytes of a frame's line are lacking at most, and so many behind it, these bytes end it; or a
-- fault is there: the line is too long, or it is no frame line
abbrev pub IsEnough : ℕ → ℕ → List ℕ → Type 0
IsEnough most behind bytes =
    HasRest most behind bytes ⊎ (HasLongRest most bytes ⊎ ((most ≡ LINE_LIMIT) × HasOtherLine bytes))

-- a frame ends with these bytes, so many of them behind its line; what came before them is of its line, of
-- which so many bytes are lacking at most
pub record EndsFrame (most behind : ℕ) (bytes : List ℕ) : Type 0 where
  pub before : List ℕ
  pub frame : FrameText
  pub is_frame : IsFrameOf behind frame
  pub in_line : HasNoLineFeed before
  pub lacking : length before + most ≡ LINE_LIMIT
  pub text : text_of frame ≡ before ++ bytes

-- where these bytes come first, n are to be awaited: no more are there exactly where these are enough, and no
-- frame ends before as many
pub record IsLeast (most behind : ℕ) (front : List ℕ) (n : ℕ) : Type 0 where
  pub enough : (n ≤ length front) ↔ IsEnough most behind front
  pub within : (more : List ℕ) → EndsFrame most behind (front ++ more) → n ≤ length (front ++ more)

-- a frame with so many bytes of data begins with these: so many bytes of its line are lacking at most, and so
-- many behind it
abbrev pub IsLacking : ℕ → List ℕ → ℕ → ℕ → Type 0
IsLacking len came most behind =
    (IsCutLine came × (length came + most ≡ LINE_LIMIT) × (behind ≡ len))
    ⊎ ((most ≡ 0) × ((front : HasFrameLine came) × (length front.more + behind ≡ len)))
