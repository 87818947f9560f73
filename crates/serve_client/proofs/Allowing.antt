-- Which stops a clock allows.
use Rattle.std.proofs.Common.{◌≡◌, ◌≢◌, ◌⊎◌, ℕ, Option, IfSome, Some, None, Result, Ok, Err, inl, inr, refl, sym, ap, ◌∙◌, subst}
use Rattle.std.specs.declared.alloc.Global.{Global}
use Rattle.std.specs.declared.sync.Arc.{Arc}
use Rattle.frame_view.specs.declared.frame.Frame.{Frame}
use Rattle.y4m_stream.specs.Reader.{ReaderState}
use Rattle.y4m_stream.specs.declared.fault.WriteFault.{WriteFault}
use Rattle.serve_core.specs.declared.collected.Collected.{Collected}
use Rattle.serve_hub.specs.Seats.{StreamSeatValue}
use Rattle.serve_client.specs.declared.feeding.Offered.TheVariants as offered
use Rattle.serve_client.specs.declared.stop.Cause.TheVariants.{TooManyFrames, ClockEnd, NoMemory}
use Rattle.serve_client.specs.declared.stop.Halt.{Halt}
use Rattle.serve_client.specs.declared.stop.Halt.TheVariants.{Full, Stopped}
use Rattle.serve_client.specs.declared.stop.Stop.{Stop}
use Rattle.serve_client.specs.declared.stop.Stop.TheVariants.{Whole, Read, Write, Refused, Torn}
use Rattle.serve_client.specs.Clients.{AllowsStop}
use Rattle.serve_client.specs.ClientInside.{AllowsFed, IsFirst, IsNoNewEnd, IsOfCollection, IsOfDelivery, IsOffered, IsUnread}
use Rattle.serve_client.specs.ClientInside.{KeepsAllowed, KeepsFault, fed_before, fed_of}
use Rattle.serve_client.specs.Sends.{Flushes, TellsKept, kept_or_whole}
use Rattle.serve_client.specs.Hands.{CountsImage, IsOfEnding}
use Rattle.serve_client.specs.Rests.{CourseValue, Discarding, Draining, Feeding, Holding, course_image, course_stop, stop_kept}

module _ (Gives : ℕ → Type 0) where
  -- a refusal of an offer at a moment that the clock gave
  pub offered_allowed : (stop : Stop) (at : ℕ) (frame : Frame) (old new : StreamSeatValue) → Gives at
      → IsOffered (offered.Stopped stop) at frame old new → AllowsStop Gives stop
  offered_allowed Whole at frame old new gives p = tt
  offered_allowed (Read fault) at frame old new gives p = tt
  offered_allowed (Write fault) at frame old new gives p = tt
  offered_allowed (Refused TooManyFrames) at frame old new gives p = tt
  offered_allowed (Refused ClockEnd) at frame old new gives p = (at, p.1 refl, gives)
  offered_allowed (Refused NoMemory) at frame old new gives p = tt
  offered_allowed Torn at frame old new gives p = tt

  -- no frame was offered
  pub unread_allowed : (stop : Stop) (old new : ReaderState) → IsUnread old new stop → AllowsStop Gives stop
  unread_allowed Whole old new u = tt
  unread_allowed (Read fault) old new u = tt
  unread_allowed (Write fault) old new u = tt
  unread_allowed (Refused TooManyFrames) old new u = tt
  unread_allowed (Refused ClockEnd) old new u = absurd u
  unread_allowed (Refused NoMemory) old new u = tt
  unread_allowed Torn old new u = tt

  pub collection_allowed : (halt : Halt) (back : Arc Frame Global) → IsOfCollection halt → AllowsFed Gives (fed_of halt back)
  collection_allowed (Full image) back own = tt
  collection_allowed (Stopped Whole) back own = tt
  collection_allowed (Stopped (Read fault)) back own = tt
  collection_allowed (Stopped (Write fault)) back own = tt
  collection_allowed (Stopped (Refused cause)) back own = absurd own
  collection_allowed (Stopped Torn) back own = tt

  pub delivery_allowed : (halt : Halt) → IsOfDelivery halt → AllowsFed Gives (fed_before halt)
  delivery_allowed (Full image) own = tt
  delivery_allowed (Stopped Whole) own = tt
  delivery_allowed (Stopped (Read fault)) own = tt
  delivery_allowed (Stopped (Write fault)) own = tt
  delivery_allowed (Stopped (Refused cause)) own = absurd (own tt)
  delivery_allowed (Stopped Torn) own = tt

  -- the first of two stops that is a fault
  pub first_allowed : (stop later first : Stop) → AllowsStop Gives stop → AllowsStop Gives later → IsFirst stop later first
      → AllowsStop Gives first
  first_allowed Whole later first a b is = subst (AllowsStop Gives) (sym is) b
  first_allowed (Read fault) later first a b is = subst (AllowsStop Gives) (sym is) a
  first_allowed (Write fault) later first a b is = subst (AllowsStop Gives) (sym is) a
  first_allowed (Refused cause) later first a b is = subst (AllowsStop Gives) (sym is) a
  first_allowed Torn later first a b is = subst (AllowsStop Gives) (sym is) a

  pub same_allowed : (old new : Option Stop) → old ≡ new → KeepsAllowed Gives old new
  same_allowed old new same was = subst (λ (o : Option Stop). IfSome o (AllowsStop Gives)) same was

  pub kept_allowed : (old new : Option Stop) → IsNoNewEnd old new → KeepsAllowed Gives old new
  kept_allowed old None same was = tt
  kept_allowed old (Some Whole) same was = tt
  kept_allowed old (Some (Read fault)) same was = tt
  kept_allowed old (Some (Write fault)) same was = tt
  kept_allowed old (Some (Refused TooManyFrames)) same was = tt
  kept_allowed old (Some (Refused ClockEnd)) same was = same_allowed old (Some (Refused ClockEnd)) (same refl) was
  kept_allowed old (Some (Refused NoMemory)) same was = tt
  kept_allowed old (Some Torn) same was = tt

-- a fault that was kept stays so
pub fault_same : (kept : Option Stop) → KeepsFault kept kept
fault_same None = tt
fault_same (Some stop) = λ fault. refl

pub fault_kept : (old mid new : Option Stop) → KeepsFault old mid → KeepsFault mid new → KeepsFault old new
fault_kept None mid new p q = tt
fault_kept (Some stop) mid new p q = λ fault. subst (λ (o : Option Stop). KeepsFault o new) (p fault) q fault

-- where the clock's end is told, it was kept

the_stop : (a b : Stop) → Some a ≡ Some b → a ≡ b
the_stop a b is = cc

pub drained_stop : (stop last told : Stop) → IsOfCollection (Stopped last) → IsFirst stop last told
    → IsNoNewEnd (Some stop) (Some told)
drained_stop Whole last told own first is =
    absurd (subst (λ (s : Stop). IsOfCollection (Stopped s)) (sym first ∙ the_stop told (Refused ClockEnd) is) own)
drained_stop (Read fault) last told own first is = ap Some (sym first) ∙ is
drained_stop (Write fault) last told own first is = ap Some (sym first) ∙ is
drained_stop (Refused cause) last told own first is = ap Some (sym first) ∙ is
drained_stop Torn last told own first is = ap Some (sym first) ∙ is

pub flushed_stop : {T : Type 0} (stop : Stop) (flush : Result T WriteFault) (told : Stop) → Flushes stop flush told
    → IsNoNewEnd (Some stop) (Some told)
flushed_stop Whole (Err fault) told f is =
    let both : Write fault ≡ Refused ClockEnd = sym f ∙ the_stop told (Refused ClockEnd) is in absurd (cc)
flushed_stop Whole (Ok t) told f is = ap Some (sym f) ∙ is
flushed_stop (Read fault) flush told f is = ap Some (sym f) ∙ is
flushed_stop (Write fault) flush told f is = ap Some (sym f) ∙ is
flushed_stop (Refused cause) flush told f is = ap Some (sym f) ∙ is
flushed_stop Torn flush told f is = ap Some (sym f) ∙ is

-- the first of two stops, where it is a fault
pub first_kept : (stop later first : Stop) → stop ≢ Whole → IsFirst stop later first → first ≡ stop
first_kept Whole later first fault is = absurd (fault refl)
first_kept (Read f) later first fault is = is
first_kept (Write f) later first fault is = is
first_kept (Refused cause) later first fault is = is
first_kept Torn later first fault is = is

memory_stop : (first told : Stop) → IsFirst first (Refused NoMemory) told → IsNoNewEnd (Some first) (Some told)
memory_stop Whole told behind is =
    let both : Refused NoMemory ≡ Refused ClockEnd = sym behind ∙ the_stop told (Refused ClockEnd) is in absurd (cc)
memory_stop (Read fault) told behind is = ap Some (sym behind) ∙ is
memory_stop (Write fault) told behind is = ap Some (sym behind) ∙ is
memory_stop (Refused cause) told behind is = ap Some (sym behind) ∙ is
memory_stop Torn told behind is = ap Some (sym behind) ∙ is

ending_collects : (ended : Stop) → IsOfEnding ended → IsOfCollection (Stopped ended)
ending_collects Whole own = tt
ending_collects (Read fault) own = absurd own
ending_collects (Write fault) own = tt
ending_collects (Refused cause) own = absurd own
ending_collects Torn own = absurd own

kept_end : (course : CourseValue) → Some (stop_kept course) ≡ Some (Refused ClockEnd) → course_stop course ≡ Some (Refused ClockEnd)
kept_end (Feeding in_hand image) is = absurd (cc)
kept_end (Holding in_hand held) is = is
kept_end (Draining stop image) is = is
kept_end (Discarding stop) is = is

-- a stop of a client that is given up: the fault that it kept, else that of its image in hand, else want of memory
module _ (ended first told : Stop) (behind : IsFirst first (Refused NoMemory) told) where
  pub given_for_none : ended ≡ Whole → first ≡ ended → told ≡ Refused NoMemory
  given_for_none well is = subst (λ (s : Stop). IsFirst s (Refused NoMemory) told) (is ∙ well) behind

  pub given_for_fault : (stop : Stop) → stop ≢ Whole → first ≡ stop → told ≡ stop
  given_for_fault stop fault is = first_kept stop (Refused NoMemory) told fault
      (subst (λ (s : Stop). IsFirst s (Refused NoMemory) told) is behind)

pub given_up_stop : (course : CourseValue) (ended first told : Stop) → IsOfEnding ended → IsFirst (stop_kept course) ended first
    → IsFirst first (Refused NoMemory) told → IsNoNewEnd (course_stop course) (Some told)
given_up_stop course ended first told own now behind is =
    kept_end course (drained_stop (stop_kept course) ended first (ending_collects ended own) now (memory_stop first told behind is))

-- the first of three stops, where the one between is none, and where it is a fault
first_none : (stop ended first told : Stop) → ended ≡ Whole → IsFirst stop ended first → IsFirst first (Refused NoMemory) told
    → IsFirst stop (Refused NoMemory) told
first_none Whole ended first told well now behind = subst (λ (s : Stop). IsFirst s (Refused NoMemory) told) (now ∙ well) behind
first_none (Read fault) ended first told well now behind = subst (λ (s : Stop). IsFirst s (Refused NoMemory) told) now behind
first_none (Write fault) ended first told well now behind = subst (λ (s : Stop). IsFirst s (Refused NoMemory) told) now behind
first_none (Refused cause) ended first told well now behind = subst (λ (s : Stop). IsFirst s (Refused NoMemory) told) now behind
first_none Torn ended first told well now behind = subst (λ (s : Stop). IsFirst s (Refused NoMemory) told) now behind

first_cut : (fault : WriteFault) (stop ended first told : Stop) → ended ≡ Write fault → IsFirst stop ended first
    → IsFirst first (Refused NoMemory) told → IsFirst stop (Write fault) told
first_cut f Whole ended first told cut now behind = subst (λ (s : Stop). IsFirst s (Refused NoMemory) told) (now ∙ cut) behind
first_cut f (Read fault) ended first told cut now behind = subst (λ (s : Stop). IsFirst s (Refused NoMemory) told) now behind
first_cut f (Write fault) ended first told cut now behind = subst (λ (s : Stop). IsFirst s (Refused NoMemory) told) now behind
first_cut f (Refused cause) ended first told cut now behind = subst (λ (s : Stop). IsFirst s (Refused NoMemory) told) now behind
first_cut f Torn ended first told cut now behind = subst (λ (s : Stop). IsFirst s (Refused NoMemory) told) now behind

-- a client that is given up with an image in hand
in_hand_kept : (pair : Collected) (kept : Option Stop) (ended first told : Stop) (old new : ℕ) → CountsImage (Some pair) ended old new
    → IsFirst (kept_or_whole kept) ended first → IsFirst first (Refused NoMemory) told → TellsKept (Some pair) kept old told new
in_hand_kept pair kept ended first told old new (inl well) now behind =
    inl (first_none (kept_or_whole kept) ended first told well.0 now behind, well.1)
in_hand_kept pair kept ended first told old new (inr cut) now behind =
    inr (cut.0, first_cut cut.0 (kept_or_whole kept) ended first told cut.1 now behind, cut.2)

-- it tells the fault that it keeps, and how many images went out
pub given_up_kept : (course : CourseValue) (ended first told : Stop) (old new : ℕ) → CountsImage (course_image course) ended old new
    → IsFirst (stop_kept course) ended first → IsFirst first (Refused NoMemory) told
    → TellsKept (course_image course) (course_stop course) old told new
given_up_kept (Feeding in_hand None) ended first told old new counts now behind =
    (given_for_none ended first told behind counts.0 now, counts.1)
given_up_kept (Feeding in_hand (Some pair)) ended first told old new counts now behind =
    in_hand_kept pair None ended first told old new counts now behind
given_up_kept (Holding in_hand held) ended first told old new counts now behind =
    (λ fault. given_for_fault ended first told behind held fault (first_kept held ended first fault now), counts.1)
given_up_kept (Draining stop None) ended first told old new counts now behind =
    (λ fault. given_for_fault ended first told behind stop fault (first_kept stop ended first fault now), counts.1)
given_up_kept (Draining stop (Some pair)) ended first told old new counts now behind =
    in_hand_kept pair (Some stop) ended first told old new counts now behind
given_up_kept (Discarding stop) ended first told old new counts now behind =
    (λ fault. given_for_fault ended first told behind stop fault (first_kept stop ended first fault now), counts.1)
