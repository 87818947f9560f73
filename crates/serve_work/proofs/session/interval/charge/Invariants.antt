use Rattle.std.proofs.Common.{◌≡◌}
use Rattle.std.specs.Vec.{vec_len}
use Rattle.serve_work.specs.SessionInside.{AreTold, outcomes_of}
use Rattle.serve_work.proofs.session.interval.charge.Given as goal

-- the first streams are told, and all else of each stays
abbrev pub invariant-loop-n : goal.invariant-loop-n
invariant-loop-n g l =
    record {
      outcomes : outcomes_of l.served.items ≡ outcomes_of l.initial.served.items;
      len : vec_len l.served ≡ vec_len l.initial.served;
      told : AreTold l.fn.ended.book.desk l.n l.served.items;
    }
