-- What a change of one stream makes of the state that is seen of a schedule.
use Rattle.std.proofs.Common.{ℕ, ◌≡◌, List, [], ◌∷◌, ◌++◌, map}
use Rattle.std.proofs.Common.{Option, Some, None, slice_get, slice_set, refl, ◌∙◌, ap}
use Rattle.std.proofs.lemmas.List.{map-set, map_push}
use Rattle.std.proofs.lemmas.Option.{slice_get-map}
use Rattle.serve_core.specs.declared.held.Held.{Held}
use Rattle.serve_core.specs.AtOnce.{with_used}
use Rattle.serve_core.specs.Counts.{Came, Lent, Shut, Taken, Worked}
use Rattle.serve_core.specs.Counts.{settled}
use Rattle.serve_core.specs.Events.{Accepted, Admit, Admitted, Arrive, Band, Close, Closing, Collect, Image}
use Rattle.serve_core.specs.Events.{Lease, Leased, Reply, Settle, Stepped}
use Rattle.serve_core.specs.Rules.{settle_reply}
use Rattle.serve_core.specs.Schedule.{ScheduleValue, state_by, stream_by, with_held, with_stream, with_stream_at}
use Rattle.serve_core.specs.Setup.{StreamSpec}
use Rattle.serve_core.specs.States.{StreamState, after, did, did_any, new_stream}
use Rattle.serve_core.specs.Streams.{KeptStream, opened}
use Rattle.serve_core.proofs.Events.Changes.{after_admit, after_arrive, after_band, after_close, after_collect, after_lease}
use Rattle.serve_core.proofs.Events.Changes.{after_settle}
use Rattle.serve_core.proofs.Events.Steps.{new_lease, state, state_is}

module _ {F : Type 0} (frames : KeptStream → List F) where
  -- a stream that is there, as it is seen
  pub stream_here : (x : ScheduleValue) (s : ℕ) (stream : KeptStream) → slice_get x.streams s ≡ Some stream
      → slice_get (state_by frames x).streams s ≡ Some (stream_by frames stream)
  stream_here x s stream e = slice_get-map (stream_by frames) x.streams s ∙ rw e refl

  -- one stream changes, and perhaps one lease
  changed_stream : (x : ScheduleValue) (s : ℕ) (stream : KeptStream) (y : StreamState F) → stream_by frames stream ≡ y
      → state_by frames (with_stream_at s stream x)
      ≡ state x.clock x.quantum (slice_set (state_by frames x).streams s y) x.workers
  changed_stream x s stream y e =
      state_is x.clock x.quantum _ _ x.workers x.workers
      (map-set (stream_by frames) x.streams s stream
      ∙ ap (slice_set (state_by frames x).streams s) e) refl

  pub one_lease : (x : ScheduleValue) (w s : ℕ) (h : Option Held) (stream : KeptStream) (y : StreamState F)
      → stream_by frames stream ≡ y
      → state_by frames (with_held w h (with_stream_at s stream x))
      ≡ state x.clock x.quantum (slice_set (state_by frames x).streams s y) (slice_set x.workers w h)
  one_lease x w s h stream y e =
      state_is x.clock x.quantum _ _ (slice_set x.workers w h) (slice_set x.workers w h)
      (map-set (stream_by frames) x.streams s stream
      ∙ ap (slice_set (state_by frames x).streams s) e) refl

module _ {F : Type 0} (G : Type 0) (frames : KeptStream → List F) where
  pub led_arrive : (x : ScheduleValue) (s n : ℕ) (f : F) (old new : KeptStream)
      → slice_get x.streams s ≡ Some old
      → stream_by frames new ≡ did (stream_by frames old) (Came x.clock f)
      → let r : Reply F G = Accepted n in
      state_by frames (with_stream_at s new x) ≡ after (state_by frames x) (Arrive s f) r
  led_arrive x s n f old new e d =
      changed_stream frames x s new _ d
      ∙ after_arrive G (state_by frames x) s f (Accepted n) (stream_by frames old)
      (stream_here frames x s old e)

  pub led_close : (x : ScheduleValue) (s : ℕ) (old new : KeptStream) → slice_get x.streams s ≡ Some old
      → stream_by frames new ≡ did (stream_by frames old) Shut
      → let r : Reply F G = Closing in
      state_by frames (with_stream_at s new x) ≡ after (state_by frames x) (Close s) r
  led_close x s old new e d =
      changed_stream frames x s new _ d
      ∙ after_close G (state_by frames x) s Closing (stream_by frames old) (stream_here frames x s old e)

  pub led_collect : (x : ScheduleValue) (s : ℕ) (g : G) (old new : KeptStream) → slice_get x.streams s ≡ Some old
      → stream_by frames new ≡ did (stream_by frames old) Taken
      → let r : Reply F G = Image g in
      state_by frames (with_stream_at s new x) ≡ after (state_by frames x) (Collect s) r
  led_collect x s g old new e d =
      changed_stream frames x s new _ d
      ∙ after_collect G (state_by frames x) s (Image g) (stream_by frames old) (stream_here frames x s old e)

  pub led_lease : (x : ScheduleValue) (w s n g : ℕ) (old new : KeptStream) → slice_get x.workers w ≡ Some None
      → slice_get x.streams s ≡ Some old → stream_by frames new ≡ did (stream_by frames old) (Lent w)
      → let r : Reply F G = Leased s n g in
      state_by frames (with_held w (Some (new_lease s n g)) (with_stream_at s new x))
      ≡ after (state_by frames x) (Lease w) r
  led_lease x w s n g old new free e d =
      one_lease frames x w s _ new _ d
      ∙ after_lease G (state_by frames x) w s n g (stream_by frames old) free (stream_here frames x s old e)

  pub led_band : (x : ScheduleValue) (w : ℕ) (held : Held) (old new : KeptStream)
      → slice_get x.workers w ≡ Some (Some held) → slice_get x.streams held.stream ≡ Some old
      → stream_by frames new ≡ did (stream_by frames old) Worked
      → let r : Reply F G = Stepped in
      state_by frames (with_held w (Some (with_used 1 held)) (with_stream_at held.stream new x))
      ≡ after (state_by frames x) (Band w) r
  led_band x w held old new mine e d =
      one_lease frames x w held.stream _ new _ d
      ∙ after_band G (state_by frames x) w held (with_used 1 held) (stream_by frames old) mine
      (stream_here frames x held.stream old e) refl

  pub led_settle : (x : ScheduleValue) (w : ℕ) (held : Held) (old new : KeptStream) (r : Reply F G)
      → slice_get x.workers w ≡ Some (Some held) → slice_get x.streams held.stream ≡ Some old
      → r ≡ settle_reply (stream_by frames old)
      → stream_by frames new ≡ did_any (stream_by frames old) (settled r)
      → state_by frames (with_held w None (with_stream_at held.stream new x)) ≡ after (state_by frames x) (Settle w) r
  led_settle x w held old new r mine e s d =
      one_lease frames x w held.stream None new _ d
      ∙ after_settle G (state_by frames x) w held (stream_by frames old) r s mine
      (stream_here frames x held.stream old e)

  pub led_admit : (x : ScheduleValue) (spec : StreamSpec) (s : ℕ)
      → stream_by frames (opened spec) ≡ new_stream spec
      → let r : Reply F G = Admitted s in
      state_by frames (with_stream spec x) ≡ after (state_by frames x) (Admit spec) r
  led_admit x spec s e =
      state_is x.clock x.quantum _ _ x.workers x.workers
      (map_push (stream_by frames) x.streams (opened spec)
      ∙ ap (λ (y : StreamState F). map (stream_by frames) x.streams ++ y ∷ []) e) refl
      ∙ after_admit G (state_by frames x) spec s
