-- The text of a stream: a header line, then frames.
use Rattle.std.specs.Prelude.{◌≡◌, ℕ, ◌≤◌, List, [], ◌∷◌, ◌++◌, length, All}
use Rattle.y4m_header.specs.declared.chroma.Chroma.{Chroma}
use Rattle.y4m_header.specs.Chroma.{data_len}
use Rattle.y4m_header.specs.Line.{line_feed}
use Rattle.y4m_header.specs.HeaderLine.{IsHeaderLine}
use Rattle.y4m_header.specs.FrameLine.{IsFrameLine}

-- a frame as a stream has it: its line, without the line feed, and its data, the bytes of its planes
pub record FrameText : Type 0 where
  pub line : List ℕ
  pub samples : List ℕ

-- a frame of this many bytes
pub record IsFrameOf (len : ℕ) (frame : FrameText) : Type 0 where
  pub is_line : IsFrameLine frame.line
  pub whole : length frame.samples ≡ len

-- a frame is its line, a line feed and its data
abbrev pub text_of : FrameText → List ℕ
text_of frame = frame.line ++ line_feed ∷ frame.samples

abbrev pub frames_text : List FrameText → List ℕ
frames_text [] = []
frames_text (frame ∷ frames) = text_of frame ++ frames_text frames

-- a stream is its header line, a line feed and its frames
abbrev pub stream_text : List ℕ → List FrameText → List ℕ
stream_text header frames = header ++ line_feed ∷ frames_text frames

-- the text is that of a header line and frames of its size
pub record IsStreamText (text header : List ℕ) (frames : List FrameText) : Type 0 where
  pub w : ℕ
  pub h : ℕ
  pub chroma : Chroma
  pub is_header : IsHeaderLine header w h chroma
  pub each : All (IsFrameOf (data_len w h chroma)) frames
  pub is_text : text ≡ stream_text header frames

-- a stream text of n frames stands at the front of the text
pub record HoldsFrames (text : List ℕ) (n : ℕ) : Type 0 where
  pub front : List ℕ
  pub rest : List ℕ
  pub header : List ℕ
  pub frames : List FrameText
  pub is_text : IsStreamText front header frames
  pub whole : text ≡ front ++ rest
  pub count : length frames ≡ n

-- n is the greatest number of frames of a stream text at the front of the text
pub record IsWholeFrames (text : List ℕ) (n : ℕ) : Type 0 where
  pub holds : HoldsFrames text n
  pub greatest : (m : ℕ) → HoldsFrames text m → m ≤ n

-- n frames stand at the front of a text in one way
abbrev pub FramesAreDetermined : Type 0
FramesAreDetermined = (text : List ℕ) (n : ℕ) (a b : HoldsFrames text n)
    → (a.front ≡ b.front) × (a.rest ≡ b.rest) × (a.header ≡ b.header) × (a.frames ≡ b.frames)
