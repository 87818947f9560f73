-- Laws of legal transcripts: soundness, what is right to answer, charges, delay, admissions and demand.
use Rattle.std.specs.Prelude.{ℕ, ◌+◌, ◌*◌, ◌≡◌, ◌≤◌, ◌↔◌, ◌⊎◌, Bool, true, IsTrue, nat_le, List, ◌∷◌, ◌++◌}
use Rattle.std.specs.Prelude.{filter, sum_by, slice_get, Some, IsSomeAnd}
use Rattle.cbs_account.specs.Laws.{unit_count}
use Rattle.cbs_account.specs.Rules.{OwnEvent, Idle}
use Rattle.serve_core.specs.declared.held.Held.{Held}
use Rattle.serve_core.specs.declared.refusal.Refusal.{Refusal}
use Rattle.serve_core.specs.declared.refusal.Refusal.TheVariants as refusals
use Rattle.serve_core.specs.Counts.{now, own_events, specs}
use Rattle.serve_core.specs.Delivered.{BeginsWith}
use Rattle.serve_core.specs.Events.{Event, Arrive, Lease, Admit, Reply, Accepted, Leased, Admitted, GivenBack}
use Rattle.serve_core.specs.Events.{Refused, SpecBack, Transcript, Then}
use Rattle.serve_core.specs.Grants.{cost_of_first}
use Rattle.serve_core.specs.Leads.{Leads}
use Rattle.serve_core.specs.Released.{StillFits, is_released, unreleased}
use Rattle.serve_core.specs.Rules.{IsLegal, Allows}
use Rattle.serve_core.specs.Setup.{ImageRelation, SizeTest}
use Rattle.serve_core.specs.Setup.{Setup, StreamSpec, IsWithin, Fits, costs, cost}
use Rattle.serve_core.specs.Sound.{Sound}
use Rattle.serve_core.specs.States.{StreamState, State, state_of, after, past, is_ready}

-- what the streams were charged whose deadline is at most d
abbrev pub demand : {F : Type 0} → ℕ → List (StreamState F) → ℕ
demand d streams = sum_by (λ x. x.charged) (filter (λ x. nat_le x.account.deadline d) streams)

module _ {F G : Type 0} where
  -- an arrival that was accepted and, the other time, refused for want of memory
  abbrev pub IsArrivalChoice : Event F → Reply F G → Reply F G → Type 0
  IsArrivalChoice e r q =
      (s n : ℕ) × (f : F) × (e ≡ Arrive s f) × (r ≡ Accepted n) × (q ≡ GivenBack refusals.NoMemory f)

  -- and so a stream that was admitted
  abbrev pub IsAdmissionChoice : Event F → Reply F G → Reply F G → Type 0
  IsAdmissionChoice e r q =
      (s : ℕ) × (spec : StreamSpec) × (e ≡ Admit spec) × (r ≡ Admitted s)
      × (q ≡ SpecBack refusals.NoMemory spec)

  abbrev pub IsMemoryChoice : Event F → Reply F G → Reply F G → Type 0
  IsMemoryChoice e r q = IsArrivalChoice e r q ⊎ IsAdmissionChoice e r q

-- a refusal leaves everything as it was
abbrev pub RefusedLaw : (F G : Type 0) → Type 0
RefusedLaw F G =
    (m : State F) (e : Event F) (s : ℕ) (f : F) (spec : StreamSpec) (k : Refusal)
    → let refused : Reply F G = Refused k in
    let given_back : Reply F G = GivenBack k f in
    let spec_back : Reply F G = SpecBack k spec in
    (after m e refused ≡ m) × (after m (Arrive s f) given_back ≡ m) × (after m (Admit spec) spec_back ≡ m)

module _ {F G : Type 0} (measures : SizeTest F) (is_image : ImageRelation F G) where
  -- each right reply keeps a state sound
  abbrev pub SoundStepLaw : Type 0
  SoundStepLaw =
      (m : State F) (e : Event F) (r : Reply F G) → Sound m → Allows measures is_image m e r
      → Sound (after m e r)

  -- each legal transcript leads to a sound state
  abbrev pub SoundLaw : Type 0
  SoundLaw =
      (setup : Setup) (p : Transcript F G) → IsWithin setup → IsLegal measures is_image setup p
      → Sound (state_of setup p)

  -- a worker is a stream's holder where the worker's lease is of the stream
  abbrev pub HolderLaw : Type 0
  HolderLaw =
      (setup : Setup) (p : Transcript F G) (s w : ℕ) (x : StreamState F) → IsWithin setup
      → IsLegal measures is_image setup p → slice_get (state_of setup p).streams s ≡ Some x
      → (x.holder ≡ Some w)
      ↔ ((l : Held) × (slice_get (state_of setup p).workers w ≡ Some (Some l)) × (l.stream ≡ s))

  -- whether a frame has the stream's size, and what its image is, can be found in one way
  abbrev pub AreDetermined : Type 0
  AreDetermined =
      ((spec : StreamSpec) (f : F) (a b : Bool) → measures spec f a → measures spec f b → a ≡ b)
      × ((spec : StreamSpec) (f : F) (g h : G) → is_image spec f g → is_image spec f h → g ≡ h)

  -- then two right replies to an event are the same, but for the choice of memory
  abbrev pub OneChoiceLaw : Type 0
  OneChoiceLaw =
      AreDetermined → (m : State F) (e : Event F) (r q : Reply F G) → Allows measures is_image m e r
      → Allows measures is_image m e q → (r ≡ q) ⊎ (IsMemoryChoice e r q ⊎ IsMemoryChoice e q r)

  -- where each frame that is there has a size and an image, each event has a right reply
  abbrev pub AnswerLaw : Type 0
  AnswerLaw =
      ((spec : StreamSpec) (f : F) → (is_sized : Bool) × measures spec f is_sized)
      → (m : State F) (e : Event F) → Sound m
      → ((s : ℕ) (x : StreamState F) (f : F) → slice_get m.streams s ≡ Some x → slice_get x.frames 0 ≡ Some f
      → (g : G) × is_image x.spec f g)
      → (r : Reply F G) × Allows measures is_image m e r

  -- each frame that a stream keeps after a legal transcript has the stream's size
  abbrev pub SizedLaw : Type 0
  SizedLaw =
      (setup : Setup) (p : Transcript F G) (s k : ℕ) (x : StreamState F) (f : F)
      → IsLegal measures is_image setup p → slice_get (state_of setup p).streams s ≡ Some x
      → slice_get x.frames k ≡ Some f → measures x.spec f true

  -- so after a legal transcript each event has a right reply, where each frame has a size, and an image for a
  -- stream if it has the stream's size
  abbrev pub AnswerAfterLaw : Type 0
  AnswerAfterLaw =
      ((spec : StreamSpec) (f : F) → (is_sized : Bool) × measures spec f is_sized)
      → (setup : Setup) (p : Transcript F G) (e : Event F) → IsWithin setup
      → IsLegal measures is_image setup p
      → ((s : ℕ) (spec : StreamSpec) (f : F) → slice_get (specs setup p) s ≡ Some spec → measures spec f true
      → (g : G) × is_image spec f g)
      → (r : Reply F G) × Allows measures is_image (state_of setup p) e r

  -- what a stream was charged is what its finished frames cost, and the bands of the next one
  abbrev pub ChargeLaw : Type 0
  ChargeLaw =
      (setup : Setup) (p : Transcript F G) (s : ℕ) (x : StreamState F) → IsWithin setup
      → IsLegal measures is_image setup p → slice_get (state_of setup p).streams s ≡ Some x
      → x.charged ≡ x.finished * cost x.spec + cost_of_first x.done (costs x.spec)

  -- where s is leased while u is ready, and n units of s came since an idle arrival of s at r, with the c, Q
  -- and T of s before the lease: (n + c) * T <= (d_u - r) * Q
  abbrev pub DelayLaw : Type 0
  DelayLaw =
      (setup : Setup) (p : Transcript F G) (w s number grant u r : ℕ) (x y : StreamState F)
      (later earlier : List OwnEvent) → IsWithin setup
      → IsLegal measures is_image setup (Then p (Lease w) (Leased s number grant))
      → slice_get (state_of setup p).streams s ≡ Some x
      → slice_get (state_of setup p).streams u ≡ Some y → IsTrue (is_ready y)
      → own_events (costs x.spec) (past setup s p) ≡ later ++ Idle r ∷ earlier
      → (unit_count later + x.account.budget) * x.spec.period + r * x.spec.maximum
      ≤ y.account.deadline * x.spec.maximum

  -- the shares of the streams that aren't released fit after each legal transcript
  abbrev pub FitsLaw : Type 0
  FitsLaw =
      (setup : Setup) (p : Transcript F G) → IsWithin setup → Fits setup → IsLegal measures is_image setup p
      → StillFits (state_of setup p)

  -- and so they do where it led on from a sound state in which they fit
  abbrev pub FitsFromLaw : Type 0
  FitsFromLaw =
      (m n : State F) (p : Transcript F G) → Sound m → StillFits m → Leads measures is_image m p n
      → StillFits n

  -- a stream that is released stays so
  abbrev pub ReleasedLaw : Type 0
  ReleasedLaw =
      (setup : Setup) (p q : Transcript F G) (s : ℕ) (x : StreamState F) → IsWithin setup
      → IsLegal measures is_image setup p → BeginsWith p q → slice_get (state_of setup q).streams s ≡ Some x
      → IsTrue (is_released (now q) x)
      → IsSomeAnd (slice_get (state_of setup p).streams s) (λ y. IsTrue (is_released (now p) y))

  -- charged * T <= deadline * Q for each stream, and of the streams that aren't released what is due by d is
  -- at most d for each worker
  abbrev pub DemandLaw : Type 0
  DemandLaw =
      (setup : Setup) (p : Transcript F G) → IsWithin setup → Fits setup → IsLegal measures is_image setup p
      → ((s : ℕ) (x : StreamState F) → slice_get (state_of setup p).streams s ≡ Some x
      → x.charged * x.spec.period ≤ x.account.deadline * x.spec.maximum)
      × ((d : ℕ) → demand d (unreleased (state_of setup p)) ≤ d * setup.workers)

  -- and so it is of all streams together, those that are released too: no share is held twice at a moment
  abbrev pub WholeDemandLaw : Type 0
  WholeDemandLaw =
      (setup : Setup) (p : Transcript F G) (d : ℕ) → IsWithin setup → Fits setup
      → IsLegal measures is_image setup p → demand d (state_of setup p).streams ≤ d * setup.workers
