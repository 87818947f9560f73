use denote.Exit.{unseen}
use denote.Param.Send.{Quiet-if, sendable}
use mir.Syntax.{of_param}
use Rattle.serve_work.proofs.live.threads.run_threads.Goals as goal

-- what the closure asks of the types, and what their bounds ask of them there
pub scoped-requires : goal.scoped-requires
scoped-requires g c =
    let are = c.type_bounds in
    record {
      at = λ a. (
        (
          search (sendable, are.sync-T),
          search (sendable, are.sync-G),
          search (sendable, are.sync-K),
          search (sendable, are.sync-L),
          record { owned = are.send-L.owned; leaving = λ k. Quiet-if (k (of_param 0)) unseen unseen (λ x w. tt) (λ x w. tt) },
          search (sendable, are.sync-D),
          record { owned = are.send-R.owned; leaving = λ k. Quiet-if (k (of_param 1)) unseen unseen (λ x w. tt) (λ x w. tt) },
          record { owned = are.send-W.owned; leaving = λ k. Quiet-if (k (of_param 2)) unseen unseen (λ x w. tt) (λ x w. tt) },
        ),
        (
          record { owned = are.send-L.owned; leaving = λ k. Quiet-if (k (of_param 0)) unseen unseen (λ x w. tt) (λ x w. tt) },
          record { owned = are.send-R.owned; leaving = λ k. Quiet-if (k (of_param 1)) unseen unseen (λ x w. tt) (λ x w. tt) },
          record { owned = are.send-W.owned; leaving = λ k. Quiet-if (k (of_param 2)) unseen unseen (λ x w. tt) (λ x w. tt) },
          search (sendable, are.sync-L),
          search (sendable, are.sync-D),
          search (sendable, are.sync-G),
          search (sendable, are.sync-K),
          search (sendable, are.sync-T),
        ),
      );
    }
