-- The lines that a session script's events print.
use Rattle.std.specs.Prelude.{ℕ, List, ◌++◌, codes, decimal}
use Rattle.hex.specs.Hex.{encode_upper}
use Rattle.filters.specs.ChainImage.{FrameValue}
use Rattle.serve_core.specs.Events.{Image, Admitted, Refused, GivenBack, SpecBack}
use Rattle.serve_core.specs.Events.{Reply, Accepted, Leased, Stepped, Returned, Finished, Ticked, Closing}
use Rattle.serve_core.specs.Words.{refusal_code, refusal_word}
use Rattle.serve_core.specs.declared.counts.Counts.{Counts}
use Rattle.serve_core.specs.declared.refusal.Refusal.{Refusal}
use Rattle.serve_script.specs.AccountScript.{balance_text}

-- `refused N WORD`
abbrev pub refused_line : Refusal → List ℕ
refused_line refusal =
    codes "refused " ++ decimal (refusal_code refusal) ++ codes " " ++ refusal_word refusal

-- `leased NAME SEQ grant G`
abbrev pub leased_line : List ℕ → ℕ → ℕ → List ℕ
leased_line name number grant =
    codes "leased " ++ name ++ codes " " ++ decimal number ++ codes " grant " ++ decimal grant

-- `image HEX`, in upper case
abbrev pub image_line : List ℕ → List ℕ
image_line samples = codes "image " ++ encode_upper samples

-- the line of a reply, where this is the name of the stream that it leases, if it is a lease
abbrev pub reply_line : List ℕ → Reply FrameValue FrameValue → List ℕ
reply_line name (Accepted number) = codes "accepted " ++ decimal number
reply_line name (Leased stream number grant) = leased_line name number grant
reply_line name Stepped = codes "stepped"
reply_line name Returned = codes "returned"
reply_line name (Finished number) = codes "finished " ++ decimal number
reply_line name Ticked = codes "ticked"
reply_line name Closing = codes "closing"
reply_line name (Image image) = image_line image.samples
reply_line name (Admitted stream) = codes "admitted " ++ decimal stream
reply_line name (Refused refusal) = refused_line refusal
reply_line name (GivenBack refusal frame) = refused_line refusal
reply_line name (SpecBack refusal spec) = refused_line refusal

-- ` accepted A finished F collected K charged U`, behind a balance
abbrev pub counts_text : Counts → List ℕ
counts_text counts =
    codes " accepted " ++ decimal counts.accepted ++ codes " finished " ++ decimal counts.finished
    ++ codes " collected " ++ decimal counts.collected ++ codes " charged " ++ decimal counts.charged

-- the line of a stream's state
abbrev pub state_line : ℕ × ℕ → Counts → List ℕ
state_line account counts = balance_text account ++ counts_text counts
