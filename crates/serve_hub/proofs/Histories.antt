-- A journal whose book was opened for a setup, and what its streams were charged.
use Rattle.std.proofs.Common.{ℕ, suc, ◌+◌, ◌*◌, ◌≡◌, ◌≤◌, ◌<◌, ◌⊎◌, inl, inr, All, List, Some, length}
use Rattle.std.proofs.Common.{slice_get, slice_index_or, ap, subst, arith, mul-le-mul_right}
use Rattle.std.proofs.lemmas.List.{length-map}
use Rattle.std.proofs.Math.Nat.{suc-mul}
use Rattle.std.proofs.lemmas.Option.{slice_get-get_or}
use Rattle.cbs_account.specs.declared.limits.TheConstants.{MOST_STREAMS, MOST_WORKERS}
use Rattle.y4m_header.specs.declared.limits.TheConstants.{MOST_FRAMES}
use Rattle.serve_core.specs.Bare.{Blank, measures_any, is_any_image}
use Rattle.serve_core.specs.Desk.{bare_frames, desk_state}
use Rattle.serve_core.specs.Grants.{cost_of_first}
use Rattle.serve_core.specs.Leads.{Leads}
use Rattle.serve_core.specs.Reached.{IsReached}
use Rattle.serve_core.specs.Schedule.{ScheduleValue, stream_by}
use Rattle.serve_core.specs.Setup.{cost, costs}
use Rattle.serve_core.specs.Sound.{IsSound}
use Rattle.serve_core.specs.States.{StreamState}
use Rattle.serve_core.proofs.Bands.Costs.{cost_within}
use Rattle.serve_core.proofs.Items.Options.{some_and}
use Rattle.serve_core.proofs.Schedules.Lifts.{stream_here}
use Rattle.serve_core.proofs.Transcripts.Reached.{few_is, leads_behind, reached_is}
use Rattle.serve_hub.specs.Books.{BookValue, IsBook, book_transcript}
use Rattle.serve_hub.specs.Ends.{AreStreamsOf, IsCharged, IsHistory, IsOpening}
use Rattle.serve_hub.specs.Seats.{StreamSeatValue, collected_by}

-- the journal leads from where its book opened to where the desk is
pub history : (opening : ScheduleValue) (b : BookValue) (w : ℕ) → IsBook b → IsOpening opening b.opening w
    → IsHistory opening b
history opening b w h o =
    let p = book_transcript b in
    let led : Leads measures_any is_any_image (desk_state opening) p (desk_state b.desk) =
    subst (λ (x : ScheduleValue). Leads measures_any is_any_image (desk_state x) p (desk_state b.desk)) o.same
    h.journal.leads in
    record {
      same = o.same;
      leads = record {
        reached = o.reached;
        behind = leads_behind measures_any is_any_image (desk_state opening) (desk_state b.desk) p led;
      };
    }

-- where the desk is, is reached
pub reached_now : (opening : ScheduleValue) (b : BookValue) (w : ℕ) → IsBook b
    → IsOpening opening b.opening w → IsReached measures_any is_any_image (desk_state b.desk)
reached_now opening b w h o =
    reached_is measures_any is_any_image (desk_state opening) (desk_state b.desk) (book_transcript b)
    (history opening b w h o).leads

-- a desk that is reached has few streams and workers
pub few_here : (x : ScheduleValue) → IsReached measures_any is_any_image (desk_state x)
    → (length x.streams ≤ MOST_STREAMS) × (length x.workers ≤ MOST_WORKERS)
few_here x r =
    let few = few_is measures_any is_any_image (desk_state x) r in
    (omega (arith, few.0, length-map x.streams (stream_by bare_frames)), few.1)

-- a seat that tells of its stream what the book has tells of few images
pub few_collected : (b : BookValue) (seats : List StreamSeatValue) → IsBook b → AreStreamsOf b.desk seats
    → All (λ s. collected_by s ≤ MOST_FRAMES) seats
few_collected b seats h streams = λ k d l.
    let seat = slice_index_or seats k d in
    let a = some_and (slice_get b.desk.streams seat.number) _ (streams k d l) in
    let x = stream_by bare_frames a.0 in
    let is = h.sound.streams seat.number x (stream_here bare_frames b.desk seat.number a.0 a.1) in
    omega (arith, a.2.collected, is.in_order, is.finished, is.limit, is.limits.frames)

equal_or_less : (a b : ℕ) → a ≤ b → (a ≡ b) ⊎ (a < b)
equal_or_less a b l = grind arith

-- what a sound stream was charged, between what its collected frames cost and what its accepted ones do
between : (t : ℕ) (x : StreamState Blank) → IsSound t x
    → (x.collected * cost x.spec ≤ x.charged) × (x.charged ≤ x.accepted * cost x.spec)
between t x h =
    let c = cost x.spec in
    let least : x.collected * c ≤ x.finished * c = mul-le-mul_right c h.in_order in
    let part : cost_of_first x.done (costs x.spec) ≤ c = cost_within x.done (costs x.spec) in (
      omega (arith, least, h.charged),
      elim (equal_or_less x.finished x.accepted (omega (arith, h.finished))) [
        | inl e ↦ (
            let none : cost_of_first x.done (costs x.spec) ≡ 0 =
            ap (λ (k : ℕ). cost_of_first k (costs x.spec)) (h.idle e) in
            let all : x.finished * c ≡ x.accepted * c = ap (λ (n : ℕ). n * c) e in
            omega (arith, none, all, h.charged))
        | inr l ↦ (
            let one : suc x.finished * c ≡ x.finished * c + c = suc-mul x.finished c in
            let more : suc x.finished * c ≤ x.accepted * c = mul-le-mul_right c l in
            omega (arith, part, one, more, h.charged))
      ],
    )

pub charged_between : (b : BookValue) → IsBook b → All IsCharged b.desk.streams
charged_between b h = λ k d l.
    let stream = slice_index_or b.desk.streams k d in
    let here : slice_get b.desk.streams k ≡ Some stream = slice_get-get_or b.desk.streams k d l in
    let x = stream_by bare_frames stream in
    let is = between b.desk.clock x (h.sound.streams k x (stream_here bare_frames b.desk k stream here)) in
    record { least = is.0; most = is.1 }
