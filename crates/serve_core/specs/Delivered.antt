-- What each stream delivers.
use Rattle.std.specs.Prelude.{ℕ, ◌≡◌, IsTrue, take, drop, slice_get, Some}
use Rattle.std.specs.List.{AllZip}
use Rattle.serve_core.specs.declared.refusal.Refusal.TheVariants as refusals
use Rattle.serve_core.specs.Counts.{accepted, collected, is_closed, frames, waiting, delivered, specs}
use Rattle.serve_core.specs.Events.{Collect, Refused, Transcript, Then, joined}
use Rattle.serve_core.specs.Rules.{IsLegal}
use Rattle.serve_core.specs.Setup.{Setup, StreamSpec, IsWithin, ImageRelation, SizeTest}
use Rattle.serve_core.specs.States.{past}

-- the transcript p begins with q
abbrev pub BeginsWith : {F G : Type 0} → Transcript F G → Transcript F G → Type 0
BeginsWith {F} {G} p q = (later : Transcript F G) × (p ≡ joined q later)

module _ {F G : Type 0} (measures : SizeTest F) (is_image : ImageRelation F G) where
  -- a stream's frames in the summary are the accepted ones from the first that isn't collected on
  abbrev pub WaitingLaw : Type 0
  WaitingLaw =
      (setup : Setup) (p : Transcript F G) (s : ℕ) (spec : StreamSpec) → IsWithin setup
      → IsLegal measures is_image setup p → slice_get (specs setup p) s ≡ Some spec
      → let h = past setup s p in waiting h ≡ drop (collected h) (frames h)

  -- what a stream delivered is the images of its first accepted frames, in order, each once: as many as were
  -- collected
  abbrev pub DeliveredLaw : Type 0
  DeliveredLaw =
      (setup : Setup) (p : Transcript F G) (s : ℕ) (spec : StreamSpec) → IsWithin setup
      → IsLegal measures is_image setup p → slice_get (specs setup p) s ≡ Some spec
      → let h = past setup s p in AllZip (is_image spec) (take (collected h) (frames h)) (delivered s p)

  -- nothing is accepted after a close
  abbrev pub CloseLaw : Type 0
  CloseLaw =
      (setup : Setup) (p q : Transcript F G) (s : ℕ) (spec : StreamSpec) → IsWithin setup
      → IsLegal measures is_image setup p → slice_get (specs setup p) s ≡ Some spec
      → BeginsWith p q → IsTrue (is_closed (past setup s q))
      → frames (past setup s p) ≡ frames (past setup s q)

  -- once a stream answered Drained it has delivered the images of all its accepted frames, and no more are
  -- accepted
  abbrev pub DrainedLaw : Type 0
  DrainedLaw =
      (setup : Setup) (p q : Transcript F G) (s : ℕ) (spec : StreamSpec) → IsWithin setup
      → IsLegal measures is_image setup p → slice_get (specs setup p) s ≡ Some spec
      → BeginsWith p (Then q (Collect s) (Refused refusals.Drained))
      → let h = past setup s p in
      (collected h ≡ accepted h)
      × (frames h ≡ frames (past setup s q))
      × AllZip (is_image spec) (frames h) (delivered s p)
