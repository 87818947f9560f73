use Rattle.std.proofs.Common.{ℕ, ◌≡◌, ap, length, reverse, subst, sym, ◌∙◌, IsTrue, List, rules}
use Rattle.std.proofs.lemmas.List.{reverse-reverse}
use Rattle.serve_hub.specs.declared.entry.Entry.{Entry}
use Rattle.serve_core.specs.Schedule.{ScheduleValue}
use Rattle.serve_hub.specs.Books.{BookValue, IsBook}
use Rattle.serve_hub.specs.Ends.{AreFree, AreStreamCalls, AreStreamsOf, AreWorkCalls, ClocksReached, HaveStreams, HaveWorkers}
use Rattle.serve_hub.specs.Ends.{IsOpening}
use Rattle.serve_hub.specs.Seats.{SharedValue}
use Rattle.serve_hub.proofs.Agreeing.{streams_by, workers_by}
use Rattle.serve_hub.proofs.Opened.{same_workers}
use Rattle.serve_hub.proofs.shared.Shared.agrees.Goals.{then-self-limit, else-self-limit, then-streams-self, else-streams-self}
use Rattle.serve_hub.proofs.shared.Shared.agrees.Goals.{then-workers-self, else-workers-self, then-streams_agree, else-streams_agree}
use Rattle.serve_hub.proofs.shared.Shared.agrees.Goals.{then-workers_agree, else-workers_agree, then-all_streams_have_seats, else-all_streams_have_seats}
use Rattle.serve_hub.proofs.shared.Shared.agrees.Goals.{then-all_workers_have_seats, else-all_workers_have_seats}
use Rattle.serve_hub.proofs.shared.Shared.agrees.Goals.{else-have_their_streams, then-have_their_streams}
use Rattle.serve_hub.proofs.shared.Shared.agrees.Goals as goal

-- the desk has as many workers as the hub opened with
opened_workers : (opening : ScheduleValue) (b : BookValue) (workers : ℕ) → IsBook b → IsOpening opening b.opening workers
    → length b.desk.workers ≡ workers
opened_workers opening b workers is opened =
    same_workers b is ∙ ap (λ (x : ScheduleValue). length x.workers) opened.same ∙ opened.each_worker

-- what agrees passes each comparison before the last
pub returns-else-clocks_agree : goal.returns-else-clocks_agree
returns-else-clocks_agree g c = (
  λ yes. absurd (cc),
  λ agree.
      let streams = c.args.streams.now in
      let workers = c.args.workers.now in
      let journal = c.journal-journal.result.now in
      let past = c.journal-journal.ensures.past ∙ ap (λ (v : SharedValue). v.book.past) c.self.view_is in
      let oldest : reverse c.args.self.now.book.past ≡ journal =
      sym (sym (reverse-reverse journal) ∙ ap reverse past) in
      let all : length streams ≡ c.self.inside.streams = search (rules, agree.all) in
      let each : length workers ≡ c.self.inside.workers =
      sym (subst (λ (v : SharedValue). length v.book.desk.workers ≡ length workers) (sym c.self.view_is) agree.desk_workers)
      ∙ opened_workers g.L.Epoch.opening c.self.inside.book c.self.inside.workers c.journal-journal.ensures.book
      c.self.invariant.4 in
      let limit : IsTrue c.if-self-limit.value = elim c.if-self-limit.branch [
        | then-self-limit w ↦ search (rules, all)
        | else-self-limit w ↦ search (rules, agree.limit)
      ] in
      let counts : IsTrue c.if-streams-self.value = elim c.if-streams-self.branch [
        | then-streams-self w ↦ search (rules, each)
        | else-streams-self w ↦ absurd (cc)
      ] in
      let offered : IsTrue c.if-workers-self.value = elim c.if-workers-self.branch [
        | then-workers-self w ↦ w.value-is ∙ w.streams_agree.ensures.1
            (subst (λ (xs : List Entry). AreStreamCalls xs streams) oldest agree.of_streams)
        | else-workers-self w ↦ absurd (cc)
      ] in
      let worked : IsTrue c.if-streams_agree.value = elim c.if-streams_agree.branch [
        | then-streams_agree w ↦ w.value-is ∙ w.workers_agree.ensures.1
            (subst (λ (xs : List Entry). AreWorkCalls xs workers) oldest agree.of_workers)
        | else-streams_agree w ↦ absurd (cc)
      ] in
      let seated : IsTrue c.if-workers_agree.value = elim c.if-workers_agree.branch [
        | then-workers_agree w ↦ w.value-is ∙ w.all_streams_have_seats.ensures.1
            (subst (λ (n : ℕ). HaveStreams n streams) all agree.each_stream)
        | else-workers_agree w ↦ absurd (cc)
      ] in
      let manned : IsTrue c.if-all_streams_have_seats.value = elim c.if-all_streams_have_seats.branch [
        | then-all_streams_have_seats w ↦ w.value-is ∙ w.all_workers_have_seats.ensures.1
            (subst (λ (n : ℕ). HaveWorkers n workers) each agree.each_worker)
        | else-all_streams_have_seats w ↦ absurd (cc)
      ] in
      let kept : IsTrue c.if-all_workers_have_seats.value = elim c.if-all_workers_have_seats.branch [
        | then-all_workers_have_seats w ↦ w.value-is ∙ w.have_their_streams.ensures.1
            (subst (λ (v : SharedValue). AreStreamsOf v.book.desk streams) (sym c.self.view_is) agree.kept)
        | else-all_workers_have_seats w ↦ absurd (cc)
      ] in
      elim c.if-have_their_streams.branch [
        | then-have_their_streams w ↦ w.value-is ∙ w.clocks_agree.ensures.1
            (subst (λ (v : SharedValue). ClocksReached v.book streams) (sym c.self.view_is) agree.clock_reached)
        | else-have_their_streams w ↦ absurd (cc)
      ],
)

pub returns-then-clocks_agree : goal.returns-then-clocks_agree
returns-then-clocks_agree g c = (
  λ free.
      let journal = c.journal-journal.result.now in
      let past = c.journal-journal.ensures.past ∙ ap (λ (v : SharedValue). v.book.past) c.self.view_is in
      let each : c.self.inside.workers ≡ length c.args.workers.now = search rules in record {
        limit = search rules;
        all = search rules;
        desk_workers = subst (λ (v : SharedValue). length v.book.desk.workers ≡ length c.args.workers.now) c.self.view_is
            (opened_workers g.L.Epoch.opening c.self.inside.book c.self.inside.workers c.journal-journal.ensures.book
            c.self.invariant.4 ∙ each);
        there = search rules;
        each_stream = search rules;
        each_worker = search rules;
        of_streams =
            let calls : AreStreamCalls journal c.args.streams.now = search rules in
            streams_by journal c.args.self.now.book.past c.args.streams.now past calls;
        of_workers =
            let calls : AreWorkCalls journal c.args.workers.now = search rules in
            workers_by journal c.args.self.now.book.past c.args.workers.now past calls;
        kept = search rules;
        clock_reached = elim c.if-have_their_streams.branch [
          | then-have_their_streams w ↦ subst (λ (v : SharedValue). ClocksReached v.book c.args.streams.now) c.self.view_is
              (w.clocks_agree.ensures.0 (sym w.value-is ∙ c.if-clocks_agree.true))
          | else-have_their_streams w ↦ (let no = sym w.value-is ∙ c.if-clocks_agree.true in absurd (cc))
        ];
        free = search rules;
      },
  λ agree.
      c.is_free.ensures.1 (subst (λ (v : SharedValue). AreFree v.book.desk.workers) (sym c.self.view_is) agree.free),
)
