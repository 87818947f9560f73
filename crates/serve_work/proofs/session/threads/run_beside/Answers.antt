use Rattle.std.proofs.Common.{List, Option, arith, refl, subst}
use Rattle.serve_work.specs.SessionInside.{AllRun, HeldValue}
use Rattle.serve_work.proofs.SessionTurns.{all_run_whole, all_stay}
use Rattle.serve_work.proofs.session.threads.run_beside.Goals as goal

pub returns-then-not-any_works : goal.returns-then-not-any_works
returns-then-not-any_works g c = record { count = refl; run = all_stay (g.K.Clock.gives c.args.post.clock.now) c.args.turns.items }

pub returns : goal.returns
returns g c =
    let gives = g.K.Clock.gives c.args.post.clock.now in
    let turns = c.args.turns in
    record {
      count = refl;
      run = all_run_whole gives turns.items c.run_clients.new.turns turns.len (omega (arith, turns.ok.0))
          (subst (λ (items : List (Option HeldValue)). AllRun gives items c.run_clients.new.turns) c.deref_mut.ensures.value
          c.run_clients.ensures);
    }
