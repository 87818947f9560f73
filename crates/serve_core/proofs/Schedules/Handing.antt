-- Jobs that are handed over and brought back leave the streams as ready as they were.
use Rattle.std.proofs.Common.{ℕ, zero, suc, ◌-◌, ◌≡◌, Bool, true, false, ◌&&◌, nat_lt, IsSome, List, [], ◌∷◌, Option}
use Rattle.std.proofs.Common.{Some, None, slice_get, slice_set, is_none, if◌then◌else◌, refl, sym, ◌∙◌, ap}
use Rattle.filters.specs.ChainImage.{FrameValue}
use Rattle.lease.specs.Job.{JobValue}
use Rattle.serve_core.specs.Desk.{brought_by}
use Rattle.serve_core.specs.Schedule.{ready_deadlines}
use Rattle.serve_core.specs.States.{StreamState, is_ready, ready_deadline}
use Rattle.serve_core.specs.Streams.{KeptStream}

-- a stream that is as ready as it was
pub shown_still : (streams : List KeptStream) (s : ℕ) (old new : KeptStream) → slice_get streams s ≡ Some old
    → ready_deadline new.state ≡ ready_deadline old.state → ready_deadlines streams ≡ ready_deadlines (slice_set streams s new)
shown_still [] s old new e r = refl
shown_still (stream ∷ streams) zero old new e r =
    let same : stream ≡ old = cc in
    ap (λ (d : Option ℕ). d ∷ ready_deadlines streams) (ap (λ (x : KeptStream). ready_deadline x.state) same ∙ sym r)
shown_still (stream ∷ streams) (suc s) old new e r =
    ap (λ (ds : List (Option ℕ)). ready_deadline stream.state ∷ ds) (shown_still streams s old new e r)

not_both : (a b : Bool) → (a && (false && b)) ≡ false
not_both true b = refl
not_both false b = refl

some_out : (o : Option ℕ) → IsSome o → is_none o ≡ false
some_out None h = absurd (cc)
some_out (Some w) h = refl

-- a stream that is out isn't ready
pub out_waits : (x : StreamState FrameValue) → IsSome x.holder → ready_deadline x ≡ None
out_waits x h =
    let no : is_ready x ≡ false = rw (some_out x.holder h) (not_both (nat_lt x.finished x.accepted)
    (nat_lt (x.finished - x.collected) x.spec.outbox)) in
    ap (λ (b : Bool). if b then Some x.account.deadline else None) no

pub brought_still : (job : JobValue) (bands : ℕ) (stream : KeptStream) → IsSome stream.state.holder
    → ready_deadline (brought_by job bands stream).state ≡ ready_deadline stream.state
brought_still job bands stream h =
    out_waits (brought_by job bands stream).state h ∙ sym (out_waits stream.state h)
