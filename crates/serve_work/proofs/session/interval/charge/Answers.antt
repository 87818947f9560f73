use Rattle.std.proofs.Common.{◌≡◌, ◌∙◌, ℕ, ap, arith, sym}
use Rattle.std.specs.Prelude.{slice_get}
use Rattle.serve_core.specs.Schedule.{HasStream}
use Rattle.serve_client.specs.Clients.{ClientOutcome}
use Rattle.serve_client.specs.Streams.{ServedValue}
use Rattle.serve_work.proofs.SessionCharges.{charge_told, map_set, told_more}
use Rattle.serve_work.proofs.session.interval.charge.Goals as goal

pub loop-n-preserved : goal.loop-n-preserved
loop-n-preserved g c =
    let told : ServedValue → ClientOutcome = λ s. s.outcome in
    let desk = c.args.ended.now.book.desk in
    let inv = c.loop-n.invariant in
    record {
      outcomes = map_set told c.loop-n.served.items c.loop-n.n c.index_mut-told.result.now _
          (ap told (c.told.view_is ∙ c.index_mut-told.ensures.value))
          ∙ inv.outcomes;
      len = inv.len;
      told = told_more (λ (k : ℕ) s. HasStream desk k (λ stream. s.charged ≡ stream.state.charged)) c.loop-n.served.items
          c.loop-n.n _ (omega arith) inv.told
          (charge_told (slice_get desk.streams c.loop-n.n) c.in-Some.counts (sym c.in-Some.is ∙ c.counts.ensures));
    }
