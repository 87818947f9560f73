-- Which replies the machine may give.
use Rattle.std.specs.Prelude.{ℕ, ◌-◌, ◌≡◌, ◌≤◌, ◌<◌, ◌⊎◌, ⊤, Bool, not, ◌&&◌, nat_eq, nat_lt, nat_le}
use Rattle.std.specs.Prelude.{drop, length}
use Rattle.std.specs.Prelude.{slice_get, Option, Some, None, MatchOption, MatchBool, IsSomeAnd, if◌then◌else◌}
use Rattle.cbs_account.specs.declared.limits.TheConstants.{LAST_MOMENT, MOST_STREAMS}
use Rattle.cbs_account.specs.Admission.{Load, with_share}
use Rattle.cbs_account.specs.Admission as admission
use Rattle.edf_pool.specs.Earliest.{IsEarliest, NoneReady}
use Rattle.serve_core.specs.declared.held.Held.{Held}
use Rattle.serve_core.specs.declared.refusal.Refusal.{Refusal}
use Rattle.serve_core.specs.declared.refusal.Refusal.TheVariants as refusals
use Rattle.serve_core.specs.Events.{Event, Arrive, Lease, Band, Settle, Tick, Close, Collect, Admit}
use Rattle.serve_core.specs.Events.{Finished, Ticked, Closing, Image, Admitted, Refused, GivenBack, SpecBack}
use Rattle.serve_core.specs.Events.{Transcript, Start, Then, Reply, Accepted, Leased, Stepped, Returned}
use Rattle.serve_core.specs.Grants.{grant_of}
use Rattle.serve_core.specs.Released.{held_load}
use Rattle.serve_core.specs.Setup.{ImageRelation, SizeTest}
use Rattle.serve_core.specs.Setup.{Setup, StreamSpec, HasBandwidth, IsWithinLimits, costs, steps}
use Rattle.serve_core.specs.States.{StreamState, State, state_of, deadlines}

-- why there is no stream of this spec: the first reason that holds, or want of memory where none does
abbrev pub RefusesSpec : StreamSpec → Refusal → Type 0
RefusesSpec spec refusals.BadLimits = ¬ IsWithinLimits spec
RefusesSpec spec refusals.BadBandwidth = IsWithinLimits spec × ¬ HasBandwidth spec
RefusesSpec spec refusals.NoMemory = IsWithinLimits spec × HasBandwidth spec
RefusesSpec spec e = ⊥

-- one stream more can be admitted behind so many, whose shares are this load
pub record CanAdmit (streams : ℕ) (held : Load) (spec : StreamSpec) : Type 0 where
  pub few : streams < MOST_STREAMS
  pub limits : IsWithinLimits spec
  pub bandwidth : HasBandwidth spec
  pub fits : admission.Fits (with_share spec.maximum spec.period held)

-- why a stream isn't admitted: the first reason that holds, or want of memory where none does
abbrev pub RefusesAdmit : ℕ → Load → StreamSpec → Refusal → Type 0
RefusesAdmit streams held spec refusals.TooManyStreams = MOST_STREAMS ≤ streams
RefusesAdmit streams held spec refusals.BadLimits = (streams < MOST_STREAMS) × ¬ IsWithinLimits spec
RefusesAdmit streams held spec refusals.BadBandwidth =
    (streams < MOST_STREAMS) × IsWithinLimits spec × ¬ HasBandwidth spec
RefusesAdmit streams held spec refusals.Overload =
    (streams < MOST_STREAMS) × IsWithinLimits spec × HasBandwidth spec
    × ¬ admission.Fits (with_share spec.maximum spec.period held)
RefusesAdmit streams held spec refusals.NoMemory = CanAdmit streams held spec
RefusesAdmit streams held spec e = ⊥

module _ {F : Type 0} where
  -- why a frame is refused: the first reason that holds. is_sized: whether it has the stream's size
  abbrev pub arrival_refusal : Bool → StreamState F → Option Refusal
  arrival_refusal is_sized x =
      if x.is_closed then Some refusals.Closed
      else if not is_sized then Some refusals.WrongSize
      else if nat_eq x.accepted x.spec.frames then Some refusals.TooManyFrames
      else if nat_le x.spec.queue (x.accepted - x.finished) then Some refusals.Full
      else None

  -- why a stream without an image gives none
  abbrev pub lack : StreamState F → Refusal
  lack x = if x.is_closed && nat_eq x.accepted x.finished then refusals.Drained else refusals.Empty

  -- what a lease of stream x grants
  abbrev pub grant : ℕ → StreamState F → ℕ
  grant quantum x = grant_of quantum x.account.budget (drop x.done (costs x.spec))

module _ {F G : Type 0} where
  -- the choice: a frame that can be accepted may be refused for want of memory
  abbrev pub AllowsArrive : Bool → StreamState F → F → Reply F G → Type 0
  AllowsArrive is_sized x f r =
      MatchOption (arrival_refusal is_sized x)
      ((r ≡ Accepted x.accepted) ⊎ (r ≡ GivenBack refusals.NoMemory f))
      (λ k. r ≡ GivenBack k f)

  -- a worker that holds nothing asks for a lease: it gets the ready stream that has the earliest deadline
  abbrev pub AllowsLease : State F → Reply F G → Type 0
  AllowsLease m (Leased s n g) =
      IsEarliest (deadlines m) s
      × IsSomeAnd (slice_get m.streams s) (λ x. (n ≡ x.finished) × (g ≡ grant m.quantum x))
  AllowsLease m (Refused refusals.NoneReady) = NoneReady (deadlines m)
  AllowsLease m r = ⊥

  abbrev pub band_reply : Held → Reply F G
  band_reply l = if nat_eq l.used l.grant then Refused refusals.GrantSpent else Stepped

  abbrev pub settle_reply : StreamState F → Reply F G
  settle_reply x = if nat_eq x.done (steps x.spec) then Finished x.finished else Returned

  abbrev pub tick_reply : ℕ → ℕ → Reply F G
  tick_reply clock to =
      if nat_lt to clock then Refused refusals.Past
      else if nat_lt LAST_MOMENT to then Refused refusals.ClockEnd
      else Ticked

  abbrev pub close_reply : StreamState F → Reply F G
  close_reply x = if x.is_closed then Refused refusals.AlreadyClosed else Closing

  -- a stream that is admitted gets the number behind all others, which was nobody's before
  abbrev pub AllowsAdmit : ℕ → Load → StreamSpec → Reply F G → Type 0
  AllowsAdmit streams held spec (Admitted s) = CanAdmit streams held spec × (s ≡ streams)
  AllowsAdmit streams held spec (SpecBack e back) = RefusesAdmit streams held spec e × (back ≡ spec)
  AllowsAdmit streams held spec r = ⊥

  -- what is answered where no image is there
  abbrev pub lack_reply : StreamState F → Reply F G
  lack_reply x = Refused (lack x)

module _ {F G : Type 0} (measures : SizeTest F) (is_image : ImageRelation F G) where
  -- an image of the first frame that isn't collected, where that is finished
  abbrev pub AllowsCollect : StreamState F → Reply F G → Type 0
  AllowsCollect x r =
      MatchBool (nat_lt x.collected x.finished)
      (IsSomeAnd (slice_get x.frames 0) (λ f. (g : G) × is_image x.spec f g × (r ≡ Image g)))
      (r ≡ lack_reply x)

  -- in the state m the reply r to the event e is right
  abbrev pub Allows : State F → Event F → Reply F G → Type 0
  Allows m (Arrive s f) r =
      MatchOption (slice_get m.streams s) (r ≡ GivenBack refusals.NoStream f) (λ x.
      (is_sized : Bool) × measures x.spec f is_sized × AllowsArrive is_sized x f r)
  Allows m (Lease w) r =
      MatchOption (slice_get m.workers w) (r ≡ Refused refusals.NoWorker) (λ h.
      MatchOption h (AllowsLease m r) (λ l. r ≡ Refused refusals.Busy))
  Allows m (Band w) r =
      MatchOption (slice_get m.workers w) (r ≡ Refused refusals.NoWorker) (λ h.
      MatchOption h (r ≡ Refused refusals.NoLease) (λ l. r ≡ band_reply l))
  Allows m (Settle w) r =
      MatchOption (slice_get m.workers w) (r ≡ Refused refusals.NoWorker) (λ h.
      MatchOption h (r ≡ Refused refusals.NoLease) (λ l.
      IsSomeAnd (slice_get m.streams l.stream) (λ x. r ≡ settle_reply x)))
  Allows m (Tick to) r = r ≡ tick_reply m.clock to
  Allows m (Close s) r =
      MatchOption (slice_get m.streams s) (r ≡ Refused refusals.NoStream) (λ x. r ≡ close_reply x)
  Allows m (Collect s) r =
      MatchOption (slice_get m.streams s) (r ≡ Refused refusals.NoStream) (λ x. AllowsCollect x r)
  Allows m (Admit spec) r = AllowsAdmit (length m.streams) (held_load m) spec r

  -- each reply is one that is right after what came before it
  abbrev pub IsLegal : Setup → Transcript F G → Type 0
  IsLegal setup Start = ⊤
  IsLegal setup (Then p e r) = IsLegal setup p × Allows (state_of setup p) e r
