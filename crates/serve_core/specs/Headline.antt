-- What is promised of every run: the headline.
use Rattle.std.specs.Prelude.{ℕ, ◌≡◌, IsTrue, List, length, take, drop, slice_get, Option, Some, None}
use Rattle.std.specs.Prelude.{IsSomeAnd, if◌then◌else◌}
use Rattle.std.specs.List.{AllZip}
use Rattle.cbs_account.specs.Balance.{Balance}
use Rattle.cbs_account.specs.Rules.{cbs}
use Rattle.edf_pool.specs.Earliest.{IsEarliest}
use Rattle.serve_core.specs.declared.refusal.Refusal.TheVariants as refusals
use Rattle.serve_core.specs.Counts.{Deed, finished, collected, is_closed, done, frames, own_events, delivered}
use Rattle.serve_core.specs.Counts.{specs}
use Rattle.serve_core.specs.Delivered.{BeginsWith}
use Rattle.serve_core.specs.Events.{Event, Lease, Collect, Reply, Leased, Refused, Transcript, Then, told}
use Rattle.serve_core.specs.Grants.{grant_of}
use Rattle.serve_core.specs.Rules.{IsLegal}
use Rattle.serve_core.specs.Setup.{Setup, StreamSpec, IsWithin, costs, ImageRelation, SizeTest}
use Rattle.serve_core.specs.States.{stream_of, map_at, past, opening, is_ready}

module _ {F : Type 0} where
  -- the budget and the deadline that the rules give a stream for its own arrivals and charges
  abbrev pub own_account : StreamSpec → List (Deed F) → Balance
  own_account spec h = cbs spec.maximum spec.period (own_events (costs spec) h)

  -- its deadline, where it can be leased
  abbrev pub own_deadline : StreamSpec → List (Deed F) → Option ℕ
  own_deadline spec h = if is_ready (stream_of spec h) then Some (own_account spec h).deadline else None

module _ {F G : Type 0} where
  abbrev pub own_deadlines : Setup → Transcript F G → List (Option ℕ)
  own_deadlines setup p = map_at 0 (λ s spec. own_deadline spec (past setup s p)) (specs setup p)

  -- after the transcript p stream s may be leased: its first unfinished frame, for so many bands
  pub record IsDue (setup : Setup) (p : Transcript F G) (s number grant : ℕ) : Type 0 where
    -- no stream that can be leased has an earlier deadline
    pub earliest : IsEarliest (own_deadlines setup p) s
    -- and the stream's budget pays for the bands that are granted, but for a single one
    pub granted : IsSomeAnd (slice_get (specs setup p) s) (λ spec.
        let h = past setup s p in
        (number ≡ finished h)
        × (grant ≡ grant_of setup.quantum (own_account spec h).budget (drop (done h) (costs spec))))

module _ {F G : Type 0} (measures : SizeTest F) (is_image : ImageRelation F G) where
  -- stream s after the transcript p, be it of the setup or admitted since
  pub record IsServed (setup : Setup) (p : Transcript F G) (s : ℕ) (spec : StreamSpec) : Type 0 where
    -- its delivered list is the images of its first accepted frames, in order, each once
    pub images :
        AllZip (is_image spec) (take (collected (past setup s p)) (frames (past setup s p))) (delivered s p)
    -- and all of them once it answered drained
    pub drained :
        (q : Transcript F G) → BeginsWith p (Then q (Collect s) (Refused refusals.Drained))
        → AllZip (is_image spec) (frames (past setup s p)) (delivered s p)
    -- nothing is accepted after its close
    pub closed :
        (q : Transcript F G) → BeginsWith p q → IsTrue (is_closed (past setup s q))
        → frames (past setup s p) ≡ frames (past setup s q)

  pub record IsAsPromised (setup : Setup) (p : Transcript F G) : Type 0 where
    pub streams : (s : ℕ) (spec : StreamSpec) → slice_get (specs setup p) s ≡ Some spec
        → IsServed setup p s spec
    -- every lease goes to an earliest deadline and grants the bands that the budget pays for, or a single
    -- one; budget and deadlines are the rules' for the streams' own arrivals and charges
    pub leases :
        (q : Transcript F G) (w s number grant : ℕ) → BeginsWith p (Then q (Lease w) (Leased s number grant))
        → IsDue setup q s number grant

  abbrev pub HeadlineLaw : Type 0
  HeadlineLaw =
      (setup : Setup) (p : Transcript F G) → IsWithin setup → IsLegal measures is_image setup p
      → IsAsPromised setup p

  -- the replies to these events, in order: as many, each right after what came before it, and as promised
  pub record IsRun (setup : Setup) (events : List (Event F)) (replies : List (Reply F G)) : Type 0 where
    pub answered : length events ≡ length replies
    pub legal : IsLegal measures is_image setup (told opening events replies)
    pub promised : IsAsPromised setup (told opening events replies)
