-- Transcripts: what was asked of the machine, and what it answered. A frame is of any type F, an image of any
-- type G.
use Rattle.std.specs.Prelude.{ℕ, List, [], ◌∷◌, ◌++◌}
use Rattle.serve_core.specs.declared.refusal.Refusal.{Refusal}
use Rattle.serve_core.specs.Setup.{StreamSpec}

pub data Event (F : Type 0) : Type 0 where
  Arrive : (stream : ℕ) (frame : F) → Event F
  Lease : (worker : ℕ) → Event F
  Band : (worker : ℕ) → Event F
  Settle : (worker : ℕ) → Event F
  Tick : (moment : ℕ) → Event F
  Close : (stream : ℕ) → Event F
  Collect : (stream : ℕ) → Event F
  -- one stream more is asked for
  Admit : (spec : StreamSpec) → Event F

pub data Reply (F G : Type 0) : Type 0 where
  Accepted : (number : ℕ) → Reply F G
  Leased : (stream number grant : ℕ) → Reply F G
  Stepped : Reply F G
  Returned : Reply F G
  Finished : (number : ℕ) → Reply F G
  Ticked : Reply F G
  Closing : Reply F G
  Image : (image : G) → Reply F G
  Admitted : (stream : ℕ) → Reply F G
  Refused : (refusal : Refusal) → Reply F G
  -- a refused frame comes back
  GivenBack : (refusal : Refusal) (frame : F) → Reply F G
  -- and so does the spec of a stream that isn't admitted
  SpecBack : (refusal : Refusal) (spec : StreamSpec) → Reply F G

-- events with their replies, the latest outermost
pub data Transcript (F G : Type 0) : Type 0 where
  Start : Transcript F G
  Then : (before : Transcript F G) (event : Event F) (reply : Reply F G) → Transcript F G

module _ {F G : Type 0} where
  -- one item more for a stream that is admitted, behind all others
  abbrev pub with_admitted : {X : Type 0} → (StreamSpec → X) → Event F → Reply F G → List X → List X
  with_admitted item (Admit spec) (Admitted s) xs = xs ++ item spec ∷ []
  with_admitted item e r xs = xs

  -- the first transcript, then the second
  abbrev pub joined : Transcript F G → Transcript F G → Transcript F G
  joined p Start = p
  joined p (Then q e r) = Then (joined p q) e r

  -- a transcript, then these events with these replies, in order; there are as many of both
  abbrev pub told : Transcript F G → List (Event F) → List (Reply F G) → Transcript F G
  told p (e ∷ events) (r ∷ replies) = told (Then p e r) events replies
  told p events replies = p
